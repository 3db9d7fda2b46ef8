-- The types of parts, put in order: they don't depend on what the parts have of them.
use Rattle.std.proofs.Common.{◌≡◌, ℕ, ◌∙◌, nat_eq, nat_lt, Bool, true, false, cond, sym, ap, refl, List, [], ◌∷◌, map}
use Rattle.world_model.specs.Part.{PartOf, by_type, part_type, with_typed}

-- numbers with one more, as parts are put in order
abbrev with_number : ℕ → List ℕ → List ℕ
with_number t [] = t ∷ []
with_number t (u ∷ us) = cond (nat_lt t u) (t ∷ u ∷ us) (cond (nat_eq u t) (t ∷ us) (u ∷ with_number t us))

abbrev in_order : List ℕ → List ℕ
in_order [] = []
in_order (t ∷ ts) = with_number t (in_order ts)

module _ {V : Type 0} where
  one_with : (p : PartOf V) (ps : List (PartOf V)) → map part_type (with_typed part_type p ps) ≡ with_number p.type_id (map part_type ps)
  one_with p [] = refl
  one_with p (q ∷ qs) = by (nat_lt p.type_id q.type_id) (nat_eq q.type_id p.type_id) (one_with p qs)
    where
      by : (b c : Bool) → map part_type (with_typed part_type p qs) ≡ with_number p.type_id (map part_type qs)
          → map part_type (cond b (p ∷ q ∷ qs) (cond c (p ∷ qs) (q ∷ with_typed part_type p qs)))
          ≡ cond b (p.type_id ∷ q.type_id ∷ map part_type qs) (cond c (p.type_id ∷ map part_type qs) (q.type_id ∷ with_number p.type_id (map part_type qs)))
      by true c rest = refl
      by false true rest = refl
      by false false rest = ap (λ ts. q.type_id ∷ ts) rest

  all_in_order : (ps : List (PartOf V)) → map part_type (by_type ps) ≡ in_order (map part_type ps)
  all_in_order [] = refl
  all_in_order (p ∷ ps) = one_with p (by_type ps) ∙ ap (with_number p.type_id) (all_in_order ps)

pub same_order : {V W : Type 0} (ps : List (PartOf V)) (qs : List (PartOf W)) → map part_type ps ≡ map part_type qs → map part_type (by_type ps) ≡ map part_type (by_type qs)
same_order ps qs same = all_in_order ps ∙ ap in_order same ∙ sym (all_in_order qs)
