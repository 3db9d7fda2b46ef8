-- The rows of a block: where the row of an entity is, and what the model's look-ups and changes by an entity make of it.
use Rattle.std.proofs.Common.{◌≡◌, ℕ, zero, suc, ◌+◌, ◌-◌, ◌<◌, ◌≤◌, ◌⊎◌, inl, inr, Bool, true, false, cond, List, [], ◌∷◌, length, take, set, get_or, find, swap_remove, slice_get, Option, Some, None, is_some, option_map, refl, sym, ap, ap₂, ◌∙◌, subst, arith}
use Rattle.std.proofs.lemmas.Bool.{cases_eq, cases_lt}
use Rattle.std.proofs.lemmas.List.{length-take, take-set-le}
use Rattle.std.proofs.Math.Seq.{take-set-lt}
use Rattle.std.proofs.lemmas.Option.{slice_get_past, slice_get_within, same_Some, none-some}
use Rattle.ent_types.specs.declared.entity.Entity.{Entity}
use Rattle.world_model.specs.Members.{one_if, tally}
use Rattle.world_model.specs.Part.{same_entity}
use Rattle.world_model.specs.Row.{Row}
use Rattle.world_model.specs.World.{Home}
use Rattle.world_model.specs.Found.{Found, placed_in, is_of}
use Rattle.world_model.specs.Leave.{last_of, front_of, replaced, without_row, has_entity}
use Rattle.world_laws.proofs.Same.{entity_is, entity_self}
use Rattle.world_laws.proofs.Members.{none_found}
use Rattle.world_laws.proofs.Leaving.{is_row, none_replaced, has_is}
use Rattle.world_places.proofs.Lists.{get_take}

-- the entity of the row at a place
abbrev pub entity_in : List Row → ℕ → Option Entity
entity_in rows k = option_map (λ r. r.entity) (slice_get rows k)

-- no row is the entity's
abbrev pub Lacks : Entity → List Row → Type 0
Lacks e rows = (j : ℕ) → entity_in rows j ≡ Some e → ⊥

-- the row at this place, and no other one, is the entity's
pub record Only (e : Entity) (k : ℕ) (rows : List Row) : Type 0 where
  pub at : entity_in rows k ≡ Some e
  pub once : (j : ℕ) → entity_in rows j ≡ Some e → j ≡ k

pub entity_at_row : (rows : List Row) (k : ℕ) (r : Row) → slice_get rows k ≡ Some r → entity_in rows k ≡ Some r.entity
entity_at_row rows k r is = ap (option_map (λ r. r.entity)) is

-- a row is there where an entity is
pub row_of_entity : (rows : List Row) (k : ℕ) (e : Entity) → entity_in rows k ≡ Some e → (r : Row) × (slice_get rows k ≡ Some r) × (r.entity ≡ e)
row_of_entity rows k e is = by (slice_get rows k) refl is
  where
    by : (o : Option Row) → slice_get rows k ≡ o → option_map (λ r. r.entity) o ≡ Some e → (r : Row) × (slice_get rows k ≡ Some r) × (r.entity ≡ e)
    by None same is = absurd (none-some e is)
    by (Some r) same is = (r, same, same_Some r.entity e is)

pub row_below : (rows : List Row) (k : ℕ) (e : Entity) → entity_in rows k ≡ Some e → k < length rows
row_below rows k e is = let (r, same, entity) = row_of_entity rows k e is in slice_get_within rows k r same

module _ (e : Entity) where
  not_row : (r : Row) → (r.entity ≡ e → ⊥) → is_row e r ≡ false
  not_row r apart = by (is_row e r) refl
    where
      by : (b : Bool) → is_row e r ≡ b → b ≡ false
      by true is = absurd (apart (sym (entity_is e r.entity is)))
      by false is = refl

  is_its_row : (r : Row) → r.entity ≡ e → is_row e r ≡ true
  is_its_row r same = ap (same_entity e) same ∙ entity_self e

  -- ---- where no row is the entity's

  lacks_first : (r : Row) (rs : List Row) → Lacks e (r ∷ rs) → is_row e r ≡ false
  lacks_first r rs lacks = not_row r (λ same. lacks 0 (ap Some same))

  pub lacks_tally : (rows : List Row) → Lacks e rows → tally (is_row e) rows ≡ 0
  lacks_tally [] lacks = refl
  lacks_tally (r ∷ rs) lacks =
      let rest = lacks_tally rs (λ j is. lacks (suc j) is) in
      subst (λ b. one_if b + tally (is_row e) rs ≡ 0) (sym (lacks_first r rs lacks)) (omega arith)

  pub lacks_found : (rows : List Row) → Lacks e rows → find (is_row e) rows ≡ None
  lacks_found rows lacks = none_found (is_row e) rows (lacks_tally rows lacks)

  pub lacks_has : (rows : List Row) → Lacks e rows → has_entity e rows ≡ false
  lacks_has rows lacks = has_is e rows ∙ ap is_some (lacks_found rows lacks)

  pub lacks_replaced : (by : Row) (rows : List Row) → Lacks e rows → replaced e by rows ≡ rows
  lacks_replaced by rows lacks = none_replaced e by rows (lacks_tally rows lacks)

  -- ---- where one row is

  only_later : (r : Row) (rs : List Row) → Only e 0 (r ∷ rs) → Lacks e rs
  only_later r rs only j is = let no_way : suc j ≡ 0 = only.once (suc j) is in omega arith

  only_not_first : (k : ℕ) (r : Row) (rs : List Row) → Only e (suc k) (r ∷ rs) → is_row e r ≡ false
  only_not_first k r rs only = not_row r (λ same. let no_way : 0 ≡ suc k = only.once 0 (ap Some same) in omega arith)

  only_rest : (k : ℕ) (r : Row) (rs : List Row) → Only e (suc k) (r ∷ rs) → Only e k rs
  only_rest k r rs only = record { at = only.at; once = λ j is. let same : suc j ≡ suc k = only.once (suc j) is in omega arith }

  pub only_tally : (k : ℕ) (rows : List Row) → Only e k rows → tally (is_row e) rows ≡ 1
  only_tally k [] only = absurd (none-some e only.at)
  only_tally zero (r ∷ rs) only =
      let rest = lacks_tally rs (only_later r rs only) in
      subst (λ b. one_if b + tally (is_row e) rs ≡ 1) (sym (is_its_row r (same_Some r.entity e only.at))) (omega arith)
  only_tally (suc k) (r ∷ rs) only =
      let rest = only_tally k rs (only_rest k r rs only) in
      subst (λ b. one_if b + tally (is_row e) rs ≡ 1) (sym (only_not_first k r rs only)) (omega arith)

  pub only_found : (k : ℕ) (r : Row) (rows : List Row) → Only e k rows → slice_get rows k ≡ Some r → find (is_row e) rows ≡ Some r
  only_found k r [] only is = absurd (none-some e only.at)
  only_found zero r (q ∷ rs) only is =
      ap (λ b. cond b (Some q) (find (is_row e) rs)) (is_its_row q (same_Some q.entity e only.at)) ∙ is
  only_found (suc k) r (q ∷ rs) only is =
      ap (λ b. cond b (Some q) (find (is_row e) rs)) (only_not_first k q rs only) ∙ only_found k r rs (only_rest k q rs only) is

  pub only_has : (k : ℕ) (rows : List Row) → Only e k rows → has_entity e rows ≡ true
  only_has k rows only =
      let (r, is, same) = row_of_entity rows k e only.at in
      has_is e rows ∙ ap is_some (only_found k r rows only is)

  pub only_replaced : (by : Row) (k : ℕ) (rows : List Row) → Only e k rows → replaced e by rows ≡ set rows k by
  only_replaced by k [] only = refl
  only_replaced by zero (r ∷ rs) only =
      ap₂ (λ (b : Bool) (qs : List Row). cond b by r ∷ qs) (is_its_row r (same_Some r.entity e only.at)) (lacks_replaced by rs (only_later r rs only))
  only_replaced by (suc k) (r ∷ rs) only =
      ap₂ (λ (b : Bool) (qs : List Row). cond b by r ∷ qs) (only_not_first k r rs only) (only_replaced by k rs (only_rest k r rs only))

  -- ---- the row leaves

  last_is : (r : Row) (rs : List Row) (d : Row) → get_or (r ∷ rs) (length rs) d ≡ last_of r rs
  last_is r [] d = refl
  last_is r (q ∷ rs) d = last_is q rs d

  front_is : (r : Row) (rs : List Row) → take (length rs) (r ∷ rs) ≡ front_of r rs
  front_is r [] = refl
  front_is r (q ∷ rs) = ap (λ (qs : List Row). r ∷ qs) (front_is q rs)

  -- rows at the front are where they were
  front_at : (n : ℕ) (rows : List Row) (j : ℕ) → entity_in (take n rows) j ≡ Some e → (j < n) × (entity_in rows j ≡ Some e)
  front_at n rows j is = by (cases_lt j n)
    where
      by : (j < n) ⊎ (n ≤ j) → (j < n) × (entity_in rows j ≡ Some e)
      by (inl below) = (below, sym (ap (option_map (λ (r : Row). r.entity)) (get_take n rows j below)) ∙ is)
      by (inr past) =
          let few = length-take n rows in
          absurd (none-some e (sym (ap (option_map (λ (r : Row). r.entity)) (slice_get_past (take n rows) j (omega arith))) ∙ is))

  pub only_left : (k : ℕ) (rows : List Row) (d : Row) → Only e k rows → without_row e rows ≡ swap_remove rows k d
  only_left k [] d only = absurd (none-some e only.at)
  only_left k (r ∷ rs) d only =
      let one_less : length (r ∷ rs) - 1 ≡ length rs = omega arith in
      by (cases_eq k (length rs))
      ∙ ap (λ z. take (length rs) (set (r ∷ rs) k z)) (sym (last_is r rs d))
      ∙ ap (λ n. take n (set (r ∷ rs) k (get_or (r ∷ rs) n d))) (sym one_less)
    where
      below : k < length (r ∷ rs)
      below = row_below (r ∷ rs) k e only.at

      by : (k ≡ length rs) ⊎ (k ≡ length rs → ⊥) → without_row e (r ∷ rs) ≡ take (length rs) (set (r ∷ rs) k (last_of r rs))
      by (inl last) =
          ap (replaced e (last_of r rs)) (sym (front_is r rs))
          ∙ lacks_replaced (last_of r rs) (take (length rs) (r ∷ rs)) (λ j is.
          let (before, there) = front_at (length rs) (r ∷ rs) j is in
          let same : j ≡ k = only.once j there in
          omega arith)
          ∙ sym (take-set-le (length rs) (r ∷ rs) k (last_of r rs) (omega arith))
      by (inr inside) =
          let small : k < length rs = omega (arith, below) in
          ap (replaced e (last_of r rs)) (sym (front_is r rs))
          ∙ only_replaced (last_of r rs) k (take (length rs) (r ∷ rs)) (record {
            at = ap (option_map (λ (q : Row). q.entity)) (get_take (length rs) (r ∷ rs) k small) ∙ only.at;
            once = λ j is. only.once j (front_at (length rs) (r ∷ rs) j is).1;
          })
          ∙ sym (take-set-lt (length rs) (r ∷ rs) k (last_of r rs) small)

-- ---- among the rows of a world

pub found_rows : (e : Entity) (home : Home) (rows : List Row) → find (is_of e) (placed_in home rows) ≡ option_map (λ r. let x : Found = record { home = home; row = r } in x) (find (is_row e) rows)
found_rows e home [] = refl
found_rows e home (r ∷ rs) = step (is_row e r) (found_rows e home rs)
  where
    x : Row → Found
    x r = record { home = home; row = r }

    step : (b : Bool) → find (is_of e) (placed_in home rs) ≡ option_map x (find (is_row e) rs)
        → cond b (Some (x r)) (find (is_of e) (placed_in home rs)) ≡ option_map x (cond b (Some r) (find (is_row e) rs))
    step true rest = refl
    step false rest = rest

pub tally_rows : (e : Entity) (home : Home) (rows : List Row) → tally (is_of e) (placed_in home rows) ≡ tally (is_row e) rows
tally_rows e home [] = refl
tally_rows e home (r ∷ rs) = ap (λ n. one_if (is_row e r) + n) (tally_rows e home rs)

pub length_rows : (home : Home) (rows : List Row) → length (placed_in home rows) ≡ length rows
length_rows home [] = refl
length_rows home (r ∷ rs) = ap suc (length_rows home rs)
