-- The items of a run are its visits, and the rows on which it works are the matching rows of the visits.
use Rattle.std.proofs.Common.{◌≡◌, ℕ, ◌+◌, Bool, true, false, if◌then◌else◌, List, [], ◌∷◌, ◌++◌, map, length, Option, refl, ap, ap₂, arith}
use Rattle.ent_types.specs.declared.type_info.TypeInfo.{TypeInfo}
use Rattle.world_model.specs.Members.{tally, one_if}
use Rattle.world_model.specs.Row.{Row}
use Rattle.world_model.specs.World.{Home, Block}
use Rattle.scenario_record.specs.declared.record.SystemEntry.{SystemEntry}
use Rattle.run_model.specs.Clock.{Clock}
use Rattle.run_model.specs.Query.{PlacedRow, matches, is_visited, matching_rows, visits}
use Rattle.run_model.specs.Run.{MatchedRow, matched_in, matched, rows_of_visits}

module _ (clock : Clock) (registry : List TypeInfo) (s : SystemEntry) (last : Option ℕ) where
  pub visits_counted : (bs : List Block) → tally (is_visited registry clock s last) bs ≡ length (visits registry clock s last bs)
  visits_counted [] = refl
  visits_counted (b ∷ bs) = by (is_visited registry clock s last b) (visits_counted bs)
    where
      by : (t : Bool) → tally (is_visited registry clock s last) bs ≡ length (visits registry clock s last bs)
          → one_if t + tally (is_visited registry clock s last) bs
          ≡ length ((if t then record { block = b; rows = matching_rows registry clock s b.home 0 b.rows } ∷ [] else []) ++ visits registry clock s last bs)
      by true rest = omega arith
      by false rest = omega arith

  abbrev at : ℕ → Home → PlacedRow → MatchedRow
  at item home p = record { item = item; place = p.place; at = record { home = home; row = p.row } }

  rows_are : (item : ℕ) (home : Home) (place : ℕ) (rs : List Row)
      → matched_in registry s item home place rs ≡ map (at item home) (matching_rows registry clock s home place rs)
  rows_are item home place [] = refl
  rows_are item home place (r ∷ rs) = by (matches registry s (record { home = home; row = r })) (rows_are item home (place + 1) rs)
    where
      by : (t : Bool) → matched_in registry s item home (place + 1) rs ≡ map (at item home) (matching_rows registry clock s home (place + 1) rs)
          → (if t then record { item = item; place = place; at = record { home = home; row = r } } ∷ [] else []) ++ matched_in registry s item home (place + 1) rs
          ≡ map (at item home) ((if t then record { place = place; row = r } ∷ [] else []) ++ matching_rows registry clock s home (place + 1) rs)
      by true rest = ap (λ ms. at item home (record { place = place; row = r }) ∷ ms) rest
      by false rest = rest

  pub matched_are : (item : ℕ) (bs : List Block) → matched clock registry s last item bs ≡ rows_of_visits item (visits registry clock s last bs)
  matched_are item [] = refl
  matched_are item (b ∷ bs) = by (is_visited registry clock s last b) (λ next. matched_are next bs)
    where
      by : (t : Bool) → ((next : ℕ) → matched clock registry s last next bs ≡ rows_of_visits next (visits registry clock s last bs))
          → (if t then matched_in registry s item b.home 0 b.rows else []) ++ matched clock registry s last (if t then item + 1 else item) bs
          ≡ rows_of_visits item ((if t then record { block = b; rows = matching_rows registry clock s b.home 0 b.rows } ∷ [] else []) ++ visits registry clock s last bs)
      by true rest = ap₂ (λ xs ys. xs ++ ys) (rows_are item b.home 0 b.rows) (rest (item + 1))
      by false rest = rest item
