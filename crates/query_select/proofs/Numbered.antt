-- The visits of a run, found by archetypes.
use Rattle.std.proofs.Common.{◌≡◌, ℕ, zero, suc, ◌+◌, ◌<◌, ◌≤◌, inl, inr, nat_eq, Bool, true, false, ◌&&◌, cond, List, [], ◌∷◌, ◌++◌, length, map, filter, Option, Some, None, refl, sym, ap, ap₂, ◌∙◌, arith}
use Rattle.std.specs.List.{flat_map, list_any, range_with_len}
use Rattle.std.proofs.lemmas.Bool.{cases_eq, ne_eqb, or_from}
use Rattle.ent_types.specs.declared.type_info.TypeInfo.{TypeInfo}
use Rattle.ent_types.specs.TypeSets.{has_type}
use Rattle.world_model.specs.Members.{In, one_if, tally}
use Rattle.world_model.specs.World.{Block}
use Rattle.archetype_store.specs.Stores.{Numbered, StoreState, IsStore, types_at}
use Rattle.world_places.specs.Placing.{home_of, numbers_of, world_block, world_blocks}
use Rattle.scenario_record.specs.declared.record.SystemEntry.{SystemEntry}
use Rattle.run_model.specs.Clock.{versions}
use Rattle.run_model.specs.Query.{Visit as ModelVisit, has_shared, is_fresh, matches, matching_rows, passes, visits}
use Rattle.run_laws.proofs.Lists.{in_has, in_passing}
use Rattle.query_select.specs.declared.filter.Filter.{Filter}
use Rattle.query_select.specs.declared.query.Query.{Query}
use Rattle.query_select.specs.declared.visits.Visit.{Visit}
use Rattle.query_select.specs.Caches.{matching_among}
use Rattle.query_select.specs.Entries.{entry_of, last_run, only_filter, unfiltered}
use Rattle.query_select.specs.Filters.{passes_filter}
use Rattle.query_select.specs.Rows.{matching_places}
use Rattle.query_select.specs.Visits.{CanSelect, blocks_among, numbered_visits, visit_if, visit_of, visits_if}
use Rattle.query_select.proofs.Ready.{registry_is}

-- ---- archetypes that match

none_has : (p : ℕ → Bool) (xs : List ℕ) (a : ℕ) → p a ≡ false → has_type (filter p xs) a ≡ false
none_has p [] a fails = refl
none_has p (x ∷ xs) a fails = by (p x) refl (none_has p xs a fails)
  where
    by : (b : Bool) → p x ≡ b → has_type (filter p xs) a ≡ false → has_type (cond b (x ∷ filter p xs) (filter p xs)) a ≡ false
    by true e rest = or_from (nat_eq x a) (has_type (filter p xs) a) (ne_eqb x a (λ same. absurd (cc (sym e ∙ ap p same ∙ fails)))) rest
    by false e rest = rest

range_in : (x start n : ℕ) → start ≤ x → x < start + n → In x (range_with_len start n)
range_in x start zero low high = absurd (omega arith)
range_in x start (suc n) low high =
    elim (cases_eq x start) [
      | inl same ↦ inl same
      | inr apart ↦ inr (range_in x (start + 1) n (omega arith) (omega arith))
    ]

-- whether an archetype is among those that match
pub matching_has : (p : ℕ → Bool) (n a : ℕ) → a < n → has_type (filter p (range_with_len 0 n)) a ≡ p a
matching_has p n a below = by (p a) refl
  where
    by : (b : Bool) → p a ≡ b → has_type (filter p (range_with_len 0 n)) a ≡ b
    by true e = in_has a (filter p (range_with_len 0 n)) (in_passing p a (range_with_len 0 n) (range_in a 0 n (omega arith) (omega arith)) e)
    by false e = none_has p (range_with_len 0 n) a e

module _ (p : List ℕ → Bool) where
  count_from : (xs : List (List ℕ)) (start : ℕ) (at : ℕ → List ℕ) → ((k j : ℕ) → k ≡ start + j → j < length xs → at k ≡ types_at xs j)
      → length (filter (λ k. p (at k)) (range_with_len start (length xs))) ≡ tally p xs
  count_from [] start at is = refl
  count_from (x ∷ xs) start at is =
      ap (λ b. length (cond b (start ∷ filter (λ k. p (at k)) (range_with_len (start + 1) (length xs))) (filter (λ k. p (at k)) (range_with_len (start + 1) (length xs)))))
      (ap p (is start 0 (omega arith) (omega arith)))
      ∙ by (p x) (count_from xs (start + 1) at (λ k j e below. is k (suc j) (omega arith) (omega arith)))
    where
      by : (b : Bool) → length (filter (λ k. p (at k)) (range_with_len (start + 1) (length xs))) ≡ tally p xs
          → length (cond b (start ∷ filter (λ k. p (at k)) (range_with_len (start + 1) (length xs))) (filter (λ k. p (at k)) (range_with_len (start + 1) (length xs)))) ≡ one_if b + tally p xs
      by true rest = omega arith
      by false rest = omega arith

  -- how many archetypes match
  pub matching_count : (xs : List (List ℕ)) → length (filter (λ a. p (types_at xs a)) (range_with_len 0 (length xs))) ≡ tally p xs
  matching_count xs = count_from xs 0 (types_at xs) (λ k j e below. ap (types_at xs) (let same : k ≡ j = omega arith in same))

-- ---- visits

fresh_same : (registry : List TypeInfo) (query : Query) (filter : Filter) (o : Option ℕ) (b : Block) → is_fresh registry versions (entry_of query filter) o b ≡ is_fresh [] versions (only_filter filter) o b
fresh_same registry query filter None b = refl
fresh_same registry query filter (Some last) b = refl

kept_first : {Y : Type 0} (f : Numbered → List Y) (t : Bool) (b : Numbered) (bs : List Numbered) → flat_map f (cond t (b ∷ bs) bs) ≡ cond t (f b) [] ++ flat_map f bs
kept_first f true b bs = refl
kept_first f false b bs = refl

-- the tests of a visit in the order in which they are made
tested : (n : ℕ) (v : ModelVisit) (w : Visit) → visit_of n v ≡ w → (p h f a : Bool)
    → map (visit_of n) (cond ((p && h) && (f && a)) (v ∷ []) [] ++ []) ≡ cond p (cond (f && h) (cond a (w ∷ []) []) []) []
tested n v w is true true true true = ap (λ x. x ∷ []) is
tested n v w is true true true false = refl
tested n v w is true true false a = refl
tested n v w is true false true a = refl
tested n v w is true false false a = refl
tested n v w is false h f a = refl

module _ (registry : List TypeInfo) (entry : SystemEntry) (s : StoreState) (sound : IsStore s) where
  abbrev pub all_matching : List ℕ
  all_matching = matching_among registry entry s.archetypes (length s.archetypes)

  -- a block is of a matching archetype where its types pass
  among_is : (b : Numbered) → In b s.blocks → has_type all_matching b.archetype ≡ passes registry entry b.block.types
  among_is b i =
      matching_has (λ a. passes registry entry (types_at s.archetypes a)) (length s.archetypes) b.archetype (sound.blocks b i).there
      ∙ ap (λ (ts : List ℕ). passes registry entry ts) (sym (sound.blocks b i).types)

  count_among : (bs : List Numbered) → ((b : Numbered) → In b bs → In b s.blocks)
      → length (blocks_among all_matching bs) ≡ tally (λ (b : Block). passes registry entry b.home.types) (world_blocks bs)
  count_among [] there = refl
  count_among (b ∷ bs) there =
      ap (λ t. length (cond t (b ∷ blocks_among all_matching bs) (blocks_among all_matching bs))) (among_is b (there b (inl refl)))
      ∙ by (passes registry entry b.block.types) (count_among bs (λ c i. there c (inr i)))
    where
      by : (t : Bool) → length (blocks_among all_matching bs) ≡ tally (λ (c : Block). passes registry entry c.home.types) (world_blocks bs)
          → length (cond t (b ∷ blocks_among all_matching bs) (blocks_among all_matching bs)) ≡ one_if t + tally (λ (c : Block). passes registry entry c.home.types) (world_blocks bs)
      by true rest = omega arith
      by false rest = omega arith

  -- how many blocks have types that pass
  pub passing_count : length (blocks_among all_matching s.blocks) ≡ tally (λ (b : Block). passes registry entry b.home.types) (world_blocks s.blocks)
  passing_count = count_among s.blocks (λ b i. i)

module _ (registry : List TypeInfo) (query : Query) (filter : Filter) (s : StoreState) (sound : IsStore s) (can : CanSelect registry s) (last : ℕ) where
  abbrev matching : List ℕ
  matching = all_matching registry (unfiltered query) s sound

  one_visit : (b : Numbered) → In b s.blocks
      → map (visit_of b.number) (visits registry versions (entry_of query filter) (last_run last) (world_block b ∷ []))
      ≡ cond (has_type matching b.archetype) (visits_if s (entry_of query filter) filter last b) []
  one_visit b i =
      ap (λ f. map (visit_of b.number) (cond ((passes registry (entry_of query filter) b.block.types && has_shared (entry_of query filter) (home_of b))
      && (f && list_any (λ r. matches registry (entry_of query filter) (record { home = home_of b; row = r })) b.block.rows))
      (record { block = world_block b; rows = matching_rows registry versions (entry_of query filter) (home_of b) 0 b.block.rows } ∷ []) [] ++ []))
      (fresh_same registry query filter (last_run last) (world_block b))
      ∙ tested b.number _ (record { block = b.number; rows = matching_places registry (entry_of query filter) (home_of b) b.block.rows }) refl
      (passes registry (entry_of query filter) b.block.types) (has_shared (entry_of query filter) (home_of b)) (is_fresh [] versions (only_filter filter) (last_run last) (world_block b))
      (list_any (λ r. matches registry (entry_of query filter) (record { home = home_of b; row = r })) b.block.rows)
      ∙ ap (λ r. cond (passes registry (unfiltered query) b.block.types) (cond (passes_filter filter last b) (visit_if r (entry_of query filter) b.number b) []) []) (sym (registry_is registry s sound can b i))
      ∙ ap (λ t. cond t (visits_if s (entry_of query filter) filter last b) []) (sym (among_is registry (unfiltered query) s sound b i))

  numbered_from : (bs : List Numbered) → ((b : Numbered) → In b bs → In b s.blocks)
      → numbered_visits versions registry (entry_of query filter) (last_run last) (numbers_of bs) (world_blocks bs)
      ≡ flat_map (visits_if s (entry_of query filter) filter last) (blocks_among matching bs)
  numbered_from [] there = refl
  numbered_from (b ∷ bs) there =
      ap₂ (λ xs ys. xs ++ ys) (one_visit b (there b (inl refl))) (numbered_from bs (λ c i. there c (inr i)))
      ∙ sym (kept_first (visits_if s (entry_of query filter) filter last) (has_type matching b.archetype) b (blocks_among matching bs))

  -- the visits of a run are those of the blocks of matching archetypes
  pub numbered_are : numbered_visits versions registry (entry_of query filter) (last_run last) (numbers_of s.blocks) (world_blocks s.blocks)
      ≡ flat_map (visits_if s (entry_of query filter) filter last) (blocks_among matching s.blocks)
  numbered_are = numbered_from s.blocks (λ b i. i)
