-- What is given for the block of a number: a candidate, or a visit.
use Rattle.std.proofs.Common.{◌≡◌, ℕ, ◌+◌, nat_lt, Bool, true, false, ◌||◌, cond, List, [], ◌∷◌, ◌++◌, length, map, refl, sym, ap, ap₂, ◌∙◌, subst, arith, lt-ltb}
use Rattle.std.specs.List.{list_any}
use Rattle.ent_types.specs.declared.type_info.TypeInfo.{TypeInfo}
use Rattle.ent_types.specs.declared.value.Value.{Value}
use Rattle.world_model.specs.Part.{PartOf}
use Rattle.world_model.specs.Row.{Row}
use Rattle.world_model.specs.World.{Home}
use Rattle.chunk_block.specs.Blocks.{BlockState, new_types}
use Rattle.archetype_store.specs.Stores.{StoreState, OfNumber, rank_of, registry_of, shape_list}
use Rattle.world_places.specs.Placing.{home_of}
use Rattle.world_places.proofs.Numbers.{of_both, of_more}
use Rattle.scenario_record.specs.declared.record.SystemEntry.{SystemEntry}
use Rattle.run_model.specs.Clock.{versions}
use Rattle.run_model.specs.Query.{PlacedRow, matches, matching_rows}
use Rattle.query_select.specs.declared.filter.Filter.{Filter}
use Rattle.query_select.specs.declared.visits.Candidate.{Candidate}
use Rattle.query_select.specs.declared.visits.Visit.{Visit}
use Rattle.query_select.specs.Filters.{passes_filter}
use Rattle.query_select.specs.Rows.{matching_places}
use Rattle.query_select.specs.Visits.{IsWholeOf, candidate_if, candidates_at, visit_if, visits_at}
use Rattle.query_select.proofs.ByNumber.{of_at_number}

pub candidate_is : (s : StoreState) (filter : Filter) (last n rank : ℕ) (r : Bool) → OfNumber n (λ b. r ≡ passes_filter filter last b) s.blocks → rank ≡ rank_of n s.blocks s.ranks
    → cond r ((let c : Candidate = record { rank = rank; number = n } in c) ∷ []) [] ≡ candidates_at s filter last n
candidate_is s filter last n rank r of is =
    of_at_number n (candidate_if s filter last n) _ s.blocks
    (of_more n (λ b. r ≡ passes_filter filter last b) (λ b. cond r ((let c : Candidate = record { rank = rank; number = n } in c) ∷ []) [] ≡ candidate_if s filter last n b) s.blocks
    (λ b e. ap₂ (λ t k. cond t ((let c : Candidate = record { rank = k; number = n } in c) ∷ []) []) e is) of)

-- ---- visits

module _ (registry : List TypeInfo) (s : SystemEntry) (home : Home) where
  -- some row matches where there is a place of one
  any_place : (start : ℕ) (rows : List Row) → list_any (λ r. matches registry s (record { home = home; row = r })) rows
      ≡ nat_lt 0 (length (map (λ (p : PlacedRow). p.place) (matching_rows registry versions s home start rows)))
  any_place start [] = refl
  any_place start (r ∷ rs) = by (matches registry s (record { home = home; row = r })) (any_place (start + 1) rs)
    where
      by : (b : Bool) → list_any (λ q. matches registry s (record { home = home; row = q })) rs
          ≡ nat_lt 0 (length (map (λ (p : PlacedRow). p.place) (matching_rows registry versions s home (start + 1) rs)))
          → (b || list_any (λ q. matches registry s (record { home = home; row = q })) rs)
          ≡ nat_lt 0 (length (map (λ (p : PlacedRow). p.place) (cond b (record { place = start; row = r } ∷ []) [] ++ matching_rows registry versions s home (start + 1) rs)))
      by true rest = sym (lt-ltb 0 (length (start ∷ map (λ (p : PlacedRow). p.place) (matching_rows registry versions s home (start + 1) rs))) (omega arith))
      by false rest = rest

-- the mask of a block that is found by its number
pub places_of_number : (s : StoreState) (entry : SystemEntry) (n : ℕ) (now : BlockState) (rows : List ℕ) → OfNumber n (IsWholeOf (registry_of s)) s.blocks → OfNumber n (λ b. now ≡ b.block) s.blocks
    → ((shared : List (PartOf Value)) → shape_list now.columns ≡ shape_list (new_types (registry_of s) now.types) → rows ≡ matching_places (registry_of s) entry (record { types = now.types; shared = shared }) now.rows)
    → OfNumber n (λ b. rows ≡ matching_places (registry_of s) entry (home_of b) b.block.rows) s.blocks
places_of_number s entry n now rows whole seen are =
    of_both n (IsWholeOf (registry_of s)) (λ b. now ≡ b.block) (λ b. rows ≡ matching_places (registry_of s) entry (home_of b) b.block.rows) s.blocks
    (λ b w e. are b.shared (subst (λ (x : BlockState). shape_list x.columns ≡ shape_list (new_types (registry_of s) x.types)) (sym e) w.shapes)
    ∙ ap (λ (x : BlockState). matching_places (registry_of s) entry (record { types = x.types; shared = b.shared }) x.rows) e) whole seen

pub visit_is : (s : StoreState) (entry : SystemEntry) (n : ℕ) (rows : List ℕ) → OfNumber n (λ b. rows ≡ matching_places (registry_of s) entry (home_of b) b.block.rows) s.blocks
    → cond (nat_lt 0 (length rows)) ((let v : Visit = record { block = n; rows = rows } in v) ∷ []) [] ≡ visits_at s entry n
visit_is s entry n rows of =
    of_at_number n (visit_if (registry_of s) entry n) _ s.blocks
    (of_more n (λ b. rows ≡ matching_places (registry_of s) entry (home_of b) b.block.rows) (λ b. cond (nat_lt 0 (length rows)) ((let v : Visit = record { block = n; rows = rows } in v) ∷ []) [] ≡ visit_if (registry_of s) entry n b) s.blocks
    (λ b e. ap (λ (ps : List ℕ). cond (nat_lt 0 (length ps)) ((let v : Visit = record { block = n; rows = ps } in v) ∷ []) []) e
    ∙ ap (λ t. cond t ((let v : Visit = record { block = n; rows = matching_places (registry_of s) entry (home_of b) b.block.rows } in v) ∷ []) [])
    (sym (any_place (registry_of s) entry (home_of b) 0 b.block.rows))) of)
