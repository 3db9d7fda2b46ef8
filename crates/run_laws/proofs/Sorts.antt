-- Sorting by insertion.
use Rattle.std.proofs.Common.{◌≡◌, ◌⊎◌, ℤ, inl, inr, Bool, true, false, if◌then◌else◌, List, [], ◌∷◌, refl, sym, ap, ap₂, ◌∙◌, arith}
use Rattle.std.specs.Prelude.{int_lt}
use Rattle.std.proofs.lemmas.Int.{ints}
use Rattle.world_model.specs.Members.{In}
use Rattle.world_laws.proofs.Perms.{Perm, empty, keep, swap, follow, perm_back, perm_in}
use Rattle.run_model.specs.Buffers.{insert_by, sorted_by}

module _ {X : Type 0} where
  pub in_insert : (lt : X → X → Bool) (x y : X) (ys : List X) → In x (insert_by lt y ys) → (x ≡ y) ⊎ In x ys
  in_insert lt x y [] h = h
  in_insert lt x y (z ∷ zs) h = by (lt z y) h (in_insert lt x y zs)
    where
      behind : (x ≡ y) ⊎ In x zs → (x ≡ y) ⊎ ((x ≡ z) ⊎ In x zs)
      behind (inl e) = inl e
      behind (inr j) = inr (inr j)

      by : (b : Bool) → In x (if b then z ∷ insert_by lt y zs else y ∷ z ∷ zs) → (In x (insert_by lt y zs) → (x ≡ y) ⊎ In x zs) → (x ≡ y) ⊎ ((x ≡ z) ⊎ In x zs)
      by false h rest = h
      by true (inl e) rest = inr (inl e)
      by true (inr i) rest = behind (rest i)

  -- sorting brings nothing new
  pub in_sorted : (lt : X → X → Bool) (x : X) (xs : List X) → In x (sorted_by lt xs) → In x xs
  in_sorted lt x [] h = h
  in_sorted lt x (y ∷ ys) h = by (in_insert lt x y (sorted_by lt ys) h) (in_sorted lt x ys)
    where
      by : (x ≡ y) ⊎ In x (sorted_by lt ys) → (In x (sorted_by lt ys) → In x ys) → (x ≡ y) ⊎ In x ys
      by (inl e) rest = inl e
      by (inr i) rest = inr (rest i)

  insert_in : (lt : X → X → Bool) (x y : X) (ys : List X) → (x ≡ y) ⊎ In x ys → In x (insert_by lt y ys)
  insert_in lt x y [] h = h
  insert_in lt x y (z ∷ zs) h = by (lt z y) h (insert_in lt x y zs)
    where
      by : (b : Bool) → (x ≡ y) ⊎ ((x ≡ z) ⊎ In x zs) → ((x ≡ y) ⊎ In x zs → In x (insert_by lt y zs)) → In x (if b then z ∷ insert_by lt y zs else y ∷ z ∷ zs)
      by false h rest = h
      by true (inl e) rest = inr (rest (inl e))
      by true (inr (inl e)) rest = inl e
      by true (inr (inr i)) rest = inr (rest (inr i))

  -- sorting loses nothing
  pub sorted_in : (lt : X → X → Bool) (x : X) (xs : List X) → In x xs → In x (sorted_by lt xs)
  sorted_in lt x [] h = h
  sorted_in lt x (y ∷ ys) (inl e) = insert_in lt x y (sorted_by lt ys) (inl e)
  sorted_in lt x (y ∷ ys) (inr i) = insert_in lt x y (sorted_by lt ys) (inr (sorted_in lt x ys i))

  -- one sort for each order of the elements
  module _ (lt : X → X → Bool) (later : (x y z : X) → lt x y ≡ true → lt y z ≡ true → lt x z ≡ true) (once : (x y : X) → lt x y ≡ true → lt y x ≡ false) where
    insert_swap : (x y : X) (zs : List X) → lt x y ≡ true → insert_by lt x (insert_by lt y zs) ≡ insert_by lt y (insert_by lt x zs)
    insert_swap x y [] less = rw (less, once x y less) refl
    insert_swap x y (z ∷ zs) less = by (lt z y) (lt z x) refl refl (insert_swap x y zs less)
      where
        by : (b c : Bool) → lt z y ≡ b → lt z x ≡ c → insert_by lt x (insert_by lt y zs) ≡ insert_by lt y (insert_by lt x zs)
            → insert_by lt x (if b then z ∷ insert_by lt y zs else y ∷ z ∷ zs) ≡ insert_by lt y (if c then z ∷ insert_by lt x zs else x ∷ z ∷ zs)
        by true true e f rest = rw (f, e) (ap (λ us. z ∷ us) rest)
        by true false e f rest = rw (f, less, e) refl
        by false true e f rest = let g = later z x y f less in let no_way : true ≡ false = sym g ∙ e in absurd (cc)
        by false false e f rest = rw (once x y less, less, e) refl

    pub sort_perm : {xs ys : List X} → Perm X xs ys → ((x y : X) → In x xs → In y xs → lt x y ≡ false → lt y x ≡ false → x ≡ y) → sorted_by lt xs ≡ sorted_by lt ys
    sort_perm empty tells = refl
    sort_perm (keep x p) tells = ap (insert_by lt x) (sort_perm p (λ y z i j. tells y z (inr i) (inr j)))
    sort_perm (swap x y zs) tells = by (lt x y) (lt y x) refl refl
      where
        by : (b c : Bool) → lt x y ≡ b → lt y x ≡ c → insert_by lt x (insert_by lt y (sorted_by lt zs)) ≡ insert_by lt y (insert_by lt x (sorted_by lt zs))
        by true c e f = insert_swap x y (sorted_by lt zs) e
        by false true e f = sym (insert_swap y x (sorted_by lt zs) f)
        by false false e f =
            let same : x ≡ y = tells x y (inl refl) (inr (inl refl)) e f in
            ap₂ (λ u v. insert_by lt u (insert_by lt v (sorted_by lt zs))) same (sym same)
    sort_perm (follow p q) tells = sort_perm p tells ∙ sort_perm q (λ x y i j. tells x y (perm_in x (perm_back p) i) (perm_in y (perm_back p) j))

  -- what is sorted stays
  abbrev pub Sorted : (X → X → Bool) → List X → Type 0
  Sorted lt [] = Unit {0}
  Sorted lt (x ∷ []) = Unit {0}
  Sorted lt (x ∷ y ∷ ys) = (lt y x ≡ false) × Sorted lt (y ∷ ys)

  pub sorted_stays : (lt : X → X → Bool) (xs : List X) → Sorted lt xs → sorted_by lt xs ≡ xs
  sorted_stays lt [] h = refl
  sorted_stays lt (x ∷ []) h = refl
  sorted_stays lt (x ∷ y ∷ ys) h = ap (insert_by lt x) (sorted_stays lt (y ∷ ys) h.1) ∙ ap (λ b. if b then y ∷ insert_by lt x ys else x ∷ y ∷ ys) h.0

-- ---- keys

pub key_later : (x y z : ℤ) → int_lt x y ≡ true → int_lt y z ≡ true → int_lt x z ≡ true
key_later x y z e f = grind (arith, ints)

pub key_once : (x y : ℤ) → int_lt x y ≡ true → int_lt y x ≡ false
key_once x y e = grind (arith, ints)

pub key_same : (x y : ℤ) → int_lt x y ≡ false → int_lt y x ≡ false → x ≡ y
key_same x y e f = grind (arith, ints)

pub false_when : (b : Bool) → (b ≡ true → ⊥) → b ≡ false
false_when true h = absurd (h refl)
false_when false h = refl

pub key_self : (x : ℤ) → int_lt x x ≡ true → ⊥
key_self x e = let f = key_once x x e in let no_way : true ≡ false = sym e ∙ f in cc
