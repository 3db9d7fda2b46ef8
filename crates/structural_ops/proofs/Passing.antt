-- Members of lists that pass a test.
use Rattle.std.proofs.Common.{◌≡◌, ◌≢◌, ◌∙◌, ◌||◌, inl, inr, Bool, true, false, not, cond, sym, ap, ap₂, refl, subst, List, [], ◌∷◌, filter}
use Rattle.std.specs.List.{list_any}
use Rattle.std.proofs.lemmas.Bool.{not-false, or_parts, or_from, true_from_ne_false}
use Rattle.world_model.specs.Members.{In}
use Rattle.world_laws.proofs.Members.{filter_passes}

module _ {X : Type 0} where
  -- tests that agree on the members
  pub filter_same : (p q : X → Bool) (xs : List X) → ((x : X) → In x xs → p x ≡ q x) → filter p xs ≡ filter q xs
  filter_same p q [] so = refl
  filter_same p q (x ∷ xs) so = ap₂ (λ b ys. cond b (x ∷ ys) ys) (so x (inl refl)) (filter_same p q xs (λ y i. so y (inr i)))

  filter_all : (p : X → Bool) (xs : List X) → ((x : X) → In x xs → p x ≡ true) → filter p xs ≡ xs
  filter_all p [] so = refl
  filter_all p (x ∷ xs) so = ap₂ (λ b ys. cond b (x ∷ ys) ys) (so x (inl refl)) (filter_all p xs (λ y i. so y (inr i)))

  filter_none : (p : X → Bool) (xs : List X) → ((x : X) → In x xs → p x ≡ false) → filter p xs ≡ []
  filter_none p [] so = refl
  filter_none p (x ∷ xs) so = ap₂ (λ b ys. cond b (x ∷ ys) ys) (so x (inl refl)) (filter_none p xs (λ y i. so y (inr i)))

  any_none : (p : X → Bool) (xs : List X) → ((x : X) → In x xs → p x ≡ false) → list_any p xs ≡ false
  any_none p [] so = refl
  any_none p (x ∷ xs) so = or_from (p x) (list_any p xs) (so x (inl refl)) (any_none p xs (λ y i. so y (inr i)))

  none_of : (p : X → Bool) (xs : List X) → list_any p xs ≡ false → (x : X) → In x xs → p x ≡ false
  none_of p [] none x i = absurd i
  none_of p (y ∷ ys) none x (inl e) = ap p e ∙ (or_parts (p y) (list_any p ys) none).0
  none_of p (y ∷ ys) none x (inr i) = none_of p ys (or_parts (p y) (list_any p ys) none).1 x i

  -- what is left by a filter says whether some member passes, and whether some doesn't
  pub none_passes : (p : X → Bool) (xs : List X) → filter p xs ≡ [] → list_any p xs ≡ false
  none_passes p [] none = refl
  none_passes p (x ∷ xs) none = by (p x) none (none_passes p xs)
    where
      by : (b : Bool) → cond b (x ∷ filter p xs) (filter p xs) ≡ [] → (filter p xs ≡ [] → list_any p xs ≡ false) → (b || list_any p xs) ≡ false
      by true e rest = absurd (cc e)
      by false e rest = rest e

  pub some_passes : (p : X → Bool) (xs : List X) → filter p xs ≢ [] → list_any p xs ≡ true
  some_passes p xs some = true_from_ne_false (list_any p xs) (λ none. some (filter_none p xs (none_of p xs none)))

  pub all_pass : (p : X → Bool) (xs : List X) → filter p xs ≡ xs → list_any (λ x. not (p x)) xs ≡ false
  all_pass p xs all = any_none (λ x. not (p x)) xs (λ x i. ap not (filter_passes p x xs (subst (In x) (sym all) i)))

  pub some_fails : (p : X → Bool) (xs : List X) → filter p xs ≢ xs → list_any (λ x. not (p x)) xs ≡ true
  some_fails p xs some =
      true_from_ne_false (list_any (λ x. not (p x)) xs) (λ none. some (filter_all p xs (λ x i. not-false (p x) (none_of (λ y. not (p y)) xs none x i))))
