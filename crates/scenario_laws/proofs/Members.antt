-- What holds of the members of a list of which each element passes a test.
use Rattle.std.proofs.Common.{ℕ, ◌≡◌, List, [], ◌∷◌, Bool, true, false, not, inl, inr, ap, ◌∙◌, subst, sym}
use Rattle.std.specs.Prelude.{All}
use Rattle.std.specs.List.{list_any, list_all, flat_map}
use Rattle.std.proofs.lemmas.Bool.{and_parts, or_parts, not-true, both_ways}
use Rattle.std.proofs.lemmas.List.Elements.{All-head, All-tail}
use Rattle.ent_types.specs.TypeSets.{has_type}
use Rattle.world_model.specs.Members.{In, AreDistinct}
use Rattle.world_laws.proofs.Members.{in_left, in_right}
use Rattle.run_laws.proofs.Lists.{in_has}
use Rattle.scenario_record.specs.TextNames.{are_once}

module _ {A : Type 0} where
  pub of_all : (P : A → Type 0) (x : A) (xs : List A) → All P xs → In x xs → P x
  of_all P x [] all i = absurd i
  of_all P x (y ∷ ys) all (inl e) = subst P (sym e) (All-head P y ys all)
  of_all P x (y ∷ ys) all (inr i) = of_all P x ys (All-tail P y ys all) i

  pub passes : (p : A → Bool) (x : A) (xs : List A) → list_all p xs ≡ true → In x xs → p x ≡ true
  passes p x [] all i = absurd i
  passes p x (y ∷ ys) all (inl e) = ap p e ∙ (and_parts (p y) (list_all p ys) all).0
  passes p x (y ∷ ys) all (inr i) = passes p x ys (and_parts (p y) (list_all p ys) all).1 i

  pub fails : (p : A → Bool) (x : A) (xs : List A) → list_any p xs ≡ false → In x xs → p x ≡ false
  fails p x [] none i = absurd i
  fails p x (y ∷ ys) none (inl e) = ap p e ∙ (or_parts (p y) (list_any p ys) none).0
  fails p x (y ∷ ys) none (inr i) = fails p x ys (or_parts (p y) (list_any p ys) none).1 i

  pub in_flattened : {B : Type 0} (f : A → List B) (y : B) (x : A) (xs : List A) → In x xs → In y (f x) → In y (flat_map f xs)
  in_flattened f y x [] i j = absurd i
  in_flattened f y x (z ∷ zs) (inl e) j = in_left y (f z) (flat_map f zs) (subst (λ u. In y (f u)) e j)
  in_flattened f y x (z ∷ zs) (inr i) j = in_right y (f z) (flat_map f zs) (in_flattened f y x zs i j)

-- where no type is there twice
pub are_distinct : (ts : List ℕ) → are_once ts ≡ true → AreDistinct ts
are_distinct [] once = tt
are_distinct (t ∷ ts) once =
    let (alone, rest) = and_parts (not (has_type ts t)) (are_once ts) once in
    (λ i. both_ways (has_type ts t) (not-true (has_type ts t) alone) (in_has t ts i), are_distinct ts rest)
