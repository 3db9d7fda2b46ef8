-- Which types can be lent.
use Rattle.std.proofs.Common.{ℕ, ◌≡◌, ◌∙◌, ◌||◌, sym, ap, refl, Bool, true, false, cond, List, [], ◌∷◌, map}
use Rattle.std.specs.Prelude.{◌==◌}
use Rattle.std.proofs.lemmas.Bool.{eqb-true}
use Rattle.ent_types.specs.TypeSets.{has_type, meets}
use Rattle.chunk_block.specs.Blocks.{BlockType, IsWhole, AreHeld, lent_type}

or_parts : (a b : Bool) → (a || b) ≡ false → (a ≡ false) × (b ≡ false)
or_parts false b h = (refl, h)
or_parts true b h = cc

-- sets that don't meet have no type in common
apart_from : (xs ys : List ℕ) (t : ℕ) → meets xs ys ≡ false → has_type ys t ≡ true → has_type xs t ≡ false
apart_from [] ys t unmet there = refl
apart_from (x ∷ xs) ys t unmet there =
    let parts = or_parts (has_type ys x) (meets xs ys) unmet in
    by (x == t) refl parts.0 (apart_from xs ys t parts.1 there)
  where
    by : (b : Bool) → (x == t) ≡ b → has_type ys x ≡ false → has_type xs t ≡ false → (b || has_type xs t) ≡ false
    by true e other rest = absurd (cc (sym other ∙ (ap (has_type ys) (eqb-true x t e) ∙ there)))
    by false e other rest = rest

-- of a whole block any types can be lent
pub whole_held : (types : List ℕ) (xs : List BlockType) → IsWhole xs → AreHeld types xs
whole_held types [] whole = tt
whole_held types (x ∷ xs) whole = ((λ _. whole.0), whole_held types xs whole.1)

held_beside : (first second : List ℕ) (xs : List BlockType) → ((t : ℕ) → has_type second t ≡ true → has_type first t ≡ false) → IsWhole xs → AreHeld second (map (lent_type first) xs)
held_beside first second [] apart whole = tt
held_beside first second (x ∷ xs) apart whole = (by (has_type first x.shape.ty.0) refl, held_beside first second xs apart whole.1)
  where
    by : (b : Bool) → has_type first x.shape.ty.0 ≡ b → has_type second (cond b (record x { lent = true }) x).shape.ty.0 ≡ true → (cond b (record x { lent = true }) x).lent ≡ false
    by true is = λ h. absurd (cc (sym is ∙ apart x.shape.ty.0 h))
    by false is = λ h. whole.0

-- after some types were lent, others can be
pub still_held : (first second : List ℕ) (xs : List BlockType) → meets first second ≡ false → IsWhole xs → AreHeld second (map (lent_type first) xs)
still_held first second xs unmet whole = held_beside first second xs (λ t there. apart_from first second t unmet there) whole
