-- The candidates of some archetypes in block order, and their visits.
use Rattle.std.proofs.Common.{◌≡◌, ℕ, inl, inr, Bool, true, false, cond, List, [], ◌∷◌, map, refl, sym, ap, ◌∙◌, subst, append-nil}
use Rattle.std.specs.List.{flat_map}
use Rattle.std.specs.List.Sorted.{IsNonDecreasingBy, IsPermutation}
use Rattle.world_model.specs.Members.{In, IsRising}
use Rattle.world_laws.proofs.Members.{in_filter}
use Rattle.world_laws.proofs.Perms.{follow, perm_back, perm_is}
use Rattle.run_laws.proofs.Arrange.{perm_from}
use Rattle.run_laws.proofs.Order.{in_flat_map}
use Rattle.archetype_store.specs.Stores.{Numbered, StoreState, IsStore, OfNumber, numbers_in, rank_of, registry_of}
use Rattle.world_places.proofs.Numbers.{of_in}
use Rattle.scenario_record.specs.declared.record.SystemEntry.{SystemEntry}
use Rattle.query_select.specs.declared.filter.Filter.{Filter}
use Rattle.query_select.specs.declared.visits.Candidate.{Candidate}
use Rattle.query_select.specs.Filters.{passes_filter}
use Rattle.query_select.specs.Visits.{blocks_among, candidate_if, candidates_at, of_found, visit_if, visits_at, visits_if}
use Rattle.query_select.proofs.ByNumber.{by_numbers, found_by_number}
use Rattle.query_select.proofs.Grouped.{flat_map_on, flat_map_twice, grouped, of_archetype, perm_flat_map}
use Rattle.query_select.proofs.Ordered.{kept_rising, made_rising, ranks_are, sorted_are}

module _ (s : StoreState) (sound : IsStore s) (filter : Filter) (last : ℕ) (matching : List ℕ) (rising : IsRising matching) where
  abbrev make : Numbered → Candidate
  make b = record { rank = rank_of b.number s.blocks s.ranks; number = b.number }

  abbrev given : Numbered → List Candidate
  given b = candidate_if s filter last b.number b

  -- the candidates in block order
  abbrev pub in_order : List Candidate
  in_order = flat_map given (blocks_among matching s.blocks)

  abbrev by_archetype : List Candidate
  by_archetype = flat_map (λ (a : ℕ). flat_map (candidates_at s filter last) (numbers_in a s.blocks)) matching

  by_blocks : by_archetype ≡ flat_map given (flat_map (of_archetype s.blocks) matching)
  by_blocks =
      flat_map_on (λ (a : ℕ). flat_map (candidates_at s filter last) (numbers_in a s.blocks)) (λ (a : ℕ). flat_map given (of_archetype s.blocks a)) matching
      (λ a i. by_numbers s.blocks sound.numbers (candidate_if s filter last) (of_archetype s.blocks a) (λ b j. in_filter _ b s.blocks j))
      ∙ sym (flat_map_twice given (of_archetype s.blocks) matching)

  rising_ranks : IsRising (map (λ (c : Candidate). c.rank) in_order)
  rising_ranks =
      made_rising (passes_filter filter last) make (blocks_among matching s.blocks)
      (kept_rising (λ b. rank_of b.number s.blocks s.ranks) _ s.blocks (subst IsRising (sym (ranks_are s.blocks s.ranks sound.numbers sound.ranked)) sound.rising))

  -- what is sorted by rank is in block order
  pub sorted_in_order : (found sorted : List Candidate) → found ≡ by_archetype → IsPermutation found sorted → IsNonDecreasingBy (λ (c : Candidate). c.rank) sorted → sorted ≡ in_order
  sorted_in_order found sorted is moved up =
      sorted_are in_order sorted
      (follow (perm_back (perm_from found sorted moved)) (follow (perm_is (is ∙ by_blocks)) (perm_flat_map given (grouped s.blocks matching rising)))) rising_ranks up

  in_given : (c : Candidate) (b : Numbered) → In c (given b) → c.number ≡ b.number
  in_given c b i = by (passes_filter filter last b) i
    where
      by : (t : Bool) → In c (cond t (make b ∷ []) []) → c.number ≡ b.number
      by true (inl e) = ap (λ (k : Candidate). k.number) e
      by true (inr j) = absurd j
      by false j = absurd j

  -- each candidate is a block that is there
  pub candidate_there : (P : Numbered → Type 0) → ((b : Numbered) → In b s.blocks → P b) → (c : Candidate) → In c in_order → OfNumber c.number P s.blocks
  candidate_there P each c i =
      let at = in_flat_map given c (blocks_among matching s.blocks) i in
      let b = at.0 in
      let there : In b s.blocks = in_filter _ b s.blocks at.1 in
      of_in c.number P s.blocks sound.numbers b there (sym (in_given c b at.2)) (each b there)

  module _ (entry : SystemEntry) where
    one_visit : (b : Numbered) → In b s.blocks → flat_map (λ (c : Candidate). visits_at s entry c.number) (given b) ≡ visits_if s entry filter last b
    one_visit b i = by (passes_filter filter last b)
      where
        by : (t : Bool) → flat_map (λ (c : Candidate). visits_at s entry c.number) (cond t (make b ∷ []) []) ≡ cond t (visit_if (registry_of s) entry b.number b) []
        by true = append-nil (visits_at s entry b.number) ∙ ap (of_found (visit_if (registry_of s) entry b.number)) (found_by_number s.blocks sound.numbers b i)
        by false = refl

    -- the visits of the candidates
    pub visits_in_order : flat_map (λ (c : Candidate). visits_at s entry c.number) in_order ≡ flat_map (visits_if s entry filter last) (blocks_among matching s.blocks)
    visits_in_order =
        flat_map_twice (λ (c : Candidate). visits_at s entry c.number) given (blocks_among matching s.blocks)
        ∙ flat_map_on (λ b. flat_map (λ (c : Candidate). visits_at s entry c.number) (given b)) (visits_if s entry filter last) (blocks_among matching s.blocks) (λ b i. one_visit b (in_filter _ b s.blocks i))
