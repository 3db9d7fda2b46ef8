-- The walk over the alive entities gives the rows by index.
use Rattle.std.proofs.Common.{ℕ, suc, ◌≡◌, ◌+◌, ◌<◌, ◌≤◌, ◌∙◌, Bool, true, false, cond, nat_eq, nat_lt, sym, ap, ap₂, refl, List, [], ◌∷◌, length, map, find, slice_get, Option, Some, None, option_map, arith}
use Rattle.std.specs.Prelude.{slice_index_or}
use Rattle.std.specs.List.{filter_map, cons_option, range_with_len}
use Rattle.std.proofs.lemmas.Bool.{eq-eqb, eqb-true}
use Rattle.std.proofs.lemmas.Option.{none-some, same_Some}
use Rattle.std.specs.Bool.{MatchBool}
use Rattle.ent_types.specs.declared.entity.Entity.{Entity}
use Rattle.entity_table.specs.declared.table.Place.{Place}
use Rattle.entity_table.specs.Table.{Holder, living, living_from, place_at, place_of}
use Rattle.world_model.specs.Members.{one_if, tally}
use Rattle.world_model.specs.Row.{Row}
use Rattle.world_model.specs.World.{World, capacity}
use Rattle.world_model.specs.Found.{Found, entities_by_index, found_by_index, has_index, is_of, placed}
use Rattle.world_laws.proofs.Members.{find_in, find_passes}
use Rattle.world_laws.proofs.Meanings.{find_only}
use Rattle.archetype_store.specs.Stores.{Numbered, OfNumber}
use Rattle.world_places.specs.Placing.{IsThere, home_of, numbers_of, world_blocks}
use Rattle.world_places.proofs.Looking.{found_has_place}
use Rattle.world_places.proofs.Whereabouts.{row_found}
use Rattle.world_rows.proofs.CodeLawful.{code_sound}
use Rattle.structural_ops.specs.Places.{found_at_place, found_in}
use Rattle.structural_ops.specs.Worlds.{IsConsistent, state_of}
use Rattle.structural_ops.specs.declared.tables.Tables.{Tables}
use Rattle.structural_ops.proofs.Looked.{there}

-- the entity of a holder, with its place
abbrev pub entry : ℕ → Holder → Entity × Place
entry index holder = (record { index = index; version = holder.version }, holder.place)

-- where each holder gives what is found by its index, the walk gives what is found by index
module _ {Y : Type 0} (g : Entity × Place → Y) (h : Found → Y) (f : ℕ → Option Found) where
  step : (index : ℕ) (os : List (Option Holder)) (xs : List Found) (o : Option Holder) (x : Option Found) → option_map (λ holder. g (entry index holder)) o ≡ option_map h x
      → map g (living_from (index + 1) os) ≡ map h xs → map g (living_from index (o ∷ os)) ≡ map h (cons_option x xs)
  step index os xs None None here rest = rest
  step index os xs None (Some x) here rest = absurd (cc)
  step index os xs (Some holder) None here rest = absurd (cc)
  step index os xs (Some holder) (Some x) here rest = ap₂ (λ y ys. y ∷ ys) (same_Some (g (entry index holder)) (h x) here) rest

  pub living_gives : (index : ℕ) (os : List (Option Holder))
      → ((k i : ℕ) → i ≡ index + k → k < length os → option_map (λ holder. g (entry i holder)) (slice_index_or os k None) ≡ option_map h (f i))
      → map g (living_from index os) ≡ map h (filter_map f (range_with_len index (length os)))
  living_gives index [] each = refl
  living_gives index (o ∷ os) each =
      step index os (filter_map f (range_with_len (index + 1) (length os))) o (f index) (each 0 index (omega arith) (omega arith))
      (living_gives (index + 1) os (λ k i at below. each (suc k) i (omega arith) (omega arith)))

-- the row at a place, by the block that is there
pub found_there_in : (p : Place) (bs : List Numbered) (b : Numbered) → OfNumber p.block (λ c. c ≡ b) bs
    → found_in p (numbers_of bs) (world_blocks bs) ≡ option_map (λ (row : Row). let x : Found = record { home = home_of b; row = row } in x) (slice_get b.block.rows p.row)
found_there_in p [] b is = absurd is
found_there_in p (c ∷ cs) b is = by (nat_eq c.number p.block) is (found_there_in p cs b)
  where
    at : Numbered → Option Found
    at d = option_map (λ (row : Row). let x : Found = record { home = home_of d; row = row } in x) (slice_get d.block.rows p.row)

    by : (t : Bool) → MatchBool t (c ≡ b) (OfNumber p.block (λ d. d ≡ b) cs)
        → (OfNumber p.block (λ d. d ≡ b) cs → found_in p (numbers_of cs) (world_blocks cs) ≡ option_map (λ (row : Row). let x : Found = record { home = home_of b; row = row } in x) (slice_get b.block.rows p.row))
        → cond t (option_map (λ (row : Row). let x : Found = record { home = home_of c; row = row } in x) (slice_get c.block.rows p.row)) (found_in p (numbers_of cs) (world_blocks cs))
        ≡ option_map (λ (row : Row). let x : Found = record { home = home_of b; row = row } in x) (slice_get b.block.rows p.row)
    by true same rest = ap (λ (d : Numbered). option_map (λ (row : Row). let x : Found = record { home = home_of d; row = row } in x) (slice_get d.block.rows p.row)) same
    by false later rest = rest later

module _ (w : Tables) (is : IsConsistent w) where
  abbrev world : World
  world = (state_of w).world

  abbrev by_index : ℕ → Option Found
  by_index i = find (has_index i) (placed world.blocks)

  abbrev holder_at : ℕ → Option Holder
  holder_at i = slice_index_or w.table.table.holders i None

  few : (i : ℕ) → tally (has_index i) (placed world.blocks) ≤ 1
  few i = let s = code_sound (capacity w.registry) world is.lawful i in let m = most (nat_lt i world.made) in omega arith
    where
      most : (b : Bool) → one_if b ≤ 1
      most true = omega arith
      most false = omega arith

  -- no row has an index at which no entity is alive
  no_row_at : (i : ℕ) → holder_at i ≡ None → by_index i ≡ None
  no_row_at i none = by (by_index i) refl
    where
      by : (o : Option Found) → by_index i ≡ o → o ≡ None
      by None at = refl
      by (Some x) at =
          let index : i ≡ x.row.entity.index = eqb-true i x.row.entity.index (find_passes (has_index i) x (placed world.blocks) at) in
          let (p, place) = found_has_place is.agrees.placed x.row.entity x (row_found is.agrees.placed x (find_in (has_index i) x (placed world.blocks) at)) in
          absurd (none-some p (sym (ap (place_at x.row.entity.version) (ap holder_at (sym index) ∙ none)) ∙ place))

  module _ (i : ℕ) (holder : Holder) (at : holder_at i ≡ Some holder) where
    abbrev e : Entity
    e = (entry i holder).0

    has_place : place_of w.table.table e ≡ Some holder.place
    has_place = ap (place_at holder.version) at ∙ ap (λ t. cond t (Some holder.place) None) (eq-eqb holder.version holder.version refl)

    row_is : IsThere w.store.blocks e holder.place
    row_is = there w is e holder.place has_place

    abbrev x : Found
    x = record { home = home_of row_is.block; row = row_is.row }

    row_at : by_index i ≡ Some x
    row_at =
        find_only (has_index i) x (placed world.blocks) (find_in (is_of e) x (placed world.blocks) row_is.is_found)
        (eq-eqb i x.row.entity.index (ap (λ (d : Entity). d.index) (sym row_is.entity))) (few i)

    place_gives : found_at_place (state_of w) holder.place ≡ Some x
    place_gives =
        found_there_in holder.place w.store.blocks row_is.block row_is.is
        ∙ ap (option_map (λ (row : Row). let y : Found = record { home = home_of row_is.block; row = row } in y)) row_is.at

  rows_same : (i : ℕ) (o : Option Holder) → holder_at i ≡ o → option_map (λ (holder : Holder). found_at_place (state_of w) holder.place) o ≡ option_map Some (by_index i)
  rows_same i None at = sym (ap (option_map Some) (no_row_at i at))
  rows_same i (Some holder) at = ap Some (place_gives i holder at) ∙ sym (ap (option_map Some) (row_at i holder at))

  entities_same : (i : ℕ) (o : Option Holder) → holder_at i ≡ o → option_map (λ (holder : Holder). (entry i holder).0) o ≡ option_map (λ (y : Found). y.row.entity) (by_index i)
  entities_same i None at = sym (ap (option_map (λ (y : Found). y.row.entity)) (no_row_at i at))
  entities_same i (Some holder) at = ap Some (sym (row_is i holder at).entity) ∙ sym (ap (option_map (λ (y : Found). y.row.entity)) (row_at i holder at))

  pub rows_walked : map (λ (p : Entity × Place). found_at_place (state_of w) p.1) (living w.table.table) ≡ map Some (found_by_index world)
  rows_walked =
      living_gives (λ (p : Entity × Place). found_at_place (state_of w) p.1) Some by_index 0 w.table.table.holders
      (λ k i at below. let same : k ≡ i = omega arith in rows_same i (slice_index_or w.table.table.holders k None) (ap holder_at (sym same)))

  pub entities_walked : map (λ (p : Entity × Place). p.0) (living w.table.table) ≡ entities_by_index world
  entities_walked =
      living_gives (λ (p : Entity × Place). p.0) (λ (y : Found). y.row.entity) by_index 0 w.table.table.holders
      (λ k i at below. let same : k ≡ i = omega arith in entities_same i (slice_index_or w.table.table.holders k None) (ap holder_at (sym same)))
