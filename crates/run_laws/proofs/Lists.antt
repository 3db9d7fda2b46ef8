-- Lists element by element, and members of lists.
use Rattle.std.proofs.Common.{◌≡◌, ℕ, inl, inr, nat_eq, Bool, true, false, ◌&&◌, ◌||◌, if◌then◌else◌, List, [], ◌∷◌, ◌++◌, map, filter, refl, sym, ap, ap₂, ◌∙◌, subst, eq-eqb}
use Rattle.std.specs.List.{list_all, list_any}
use Rattle.ent_types.specs.TypeSets.{has_type}
use Rattle.world_model.specs.Members.{In}
use Rattle.world_laws.proofs.Members.{in_left, in_right}
use Rattle.run_laws.specs.Agree.{Both}

pub both_self : {A : Type 0} (R : A → A → Type 0) → ((x : A) → R x x) → (xs : List A) → Both R xs xs
both_self R same [] = tt
both_self R same (x ∷ xs) = (same x, both_self R same xs)

pub both_map : {A B : Type 0} (R : A → A → Type 0) (S : B → B → Type 0) (f g : A → B) → ((x y : A) → R x y → S (f x) (g y)) → (xs ys : List A) → Both R xs ys → Both S (map f xs) (map g ys)
both_map R S f g goes [] [] h = tt
both_map R S f g goes [] (y ∷ ys) h = absurd h
both_map R S f g goes (x ∷ xs) [] h = absurd h
both_map R S f g goes (x ∷ xs) (y ∷ ys) h = (goes x y h.0, both_map R S f g goes xs ys h.1)

pub both_then : {A : Type 0} (R : A → A → Type 0) → ((x y z : A) → R x y → R y z → R x z) → (xs ys zs : List A) → Both R xs ys → Both R ys zs → Both R xs zs
both_then R goes [] [] [] h k = tt
both_then R goes [] [] (z ∷ zs) h k = absurd k
both_then R goes [] (y ∷ ys) zs h k = absurd h
both_then R goes (x ∷ xs) [] zs h k = absurd h
both_then R goes (x ∷ xs) (y ∷ ys) [] h k = absurd k
both_then R goes (x ∷ xs) (y ∷ ys) (z ∷ zs) h k = (goes x y z h.0 k.0, both_then R goes xs ys zs h.1 k.1)

pub both_append : {A : Type 0} (R : A → A → Type 0) (xs ys us vs : List A) → Both R xs ys → Both R us vs → Both R (xs ++ us) (ys ++ vs)
both_append R [] [] us vs h k = k
both_append R [] (y ∷ ys) us vs h k = absurd h
both_append R (x ∷ xs) [] us vs h k = absurd h
both_append R (x ∷ xs) (y ∷ ys) us vs h k = (h.0, both_append R xs ys us vs h.1 k)

pub both_less : {A : Type 0} (R S : A → A → Type 0) → ((x y : A) → R x y → S x y) → (xs ys : List A) → Both R xs ys → Both S xs ys
both_less R S less [] [] h = tt
both_less R S less [] (y ∷ ys) h = absurd h
both_less R S less (x ∷ xs) [] h = absurd h
both_less R S less (x ∷ xs) (y ∷ ys) h = (less x y h.0, both_less R S less xs ys h.1)

-- ---- members

pub in_has : (t : ℕ) (us : List ℕ) → In t us → has_type us t ≡ true
in_has t [] h = absurd h
in_has t (u ∷ us) (inl e) = rw (eq-eqb u t (sym e)) refl
in_has t (u ∷ us) (inr i) = by (nat_eq u t) (in_has t us i)
  where
    by : (b : Bool) → has_type us t ≡ true → (b || has_type us t) ≡ true
    by true rest = refl
    by false rest = rest

pub in_passing : (p : ℕ → Bool) (t : ℕ) (xs : List ℕ) → In t xs → p t ≡ true → In t (filter p xs)
in_passing p t [] i h = i
in_passing p t (x ∷ xs) (inl e) h = subst (λ b. In t (if b then x ∷ filter p xs else filter p xs)) (sym (sym (ap p e) ∙ h)) (inl e)
in_passing p t (x ∷ xs) (inr i) h = by (p x) (in_passing p t xs i h)
  where
    by : (b : Bool) → In t (filter p xs) → In t (if b then x ∷ filter p xs else filter p xs)
    by true rest = inr rest
    by false rest = rest

pub all_eq : {A : Type 0} (f g : A → Bool) (xs : List A) → ((t : A) → In t xs → f t ≡ g t) → list_all f xs ≡ list_all g xs
all_eq f g [] same = refl
all_eq f g (x ∷ xs) same = ap₂ (λ a b. a && b) (same x (inl refl)) (all_eq f g xs (λ t i. same t (inr i)))

pub any_eq : {A : Type 0} (f g : A → Bool) (xs : List A) → ((t : A) → In t xs → f t ≡ g t) → list_any f xs ≡ list_any g xs
any_eq f g [] same = refl
any_eq f g (x ∷ xs) same = ap₂ (λ a b. a || b) (same x (inl refl)) (any_eq f g xs (λ t i. same t (inr i)))

-- ---- types of lists that all have some property

abbrev pub Within : List ℕ → (ℕ → Type 0) → Type 0
Within ts X = (t : ℕ) → In t ts → X t

pub within_left : (xs ys : List ℕ) (X : ℕ → Type 0) → Within (xs ++ ys) X → Within xs X
within_left xs ys X h t i = h t (in_left t xs ys i)

pub within_right : (xs ys : List ℕ) (X : ℕ → Type 0) → Within (xs ++ ys) X → Within ys X
within_right xs ys X h t i = h t (in_right t xs ys i)
