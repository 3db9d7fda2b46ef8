-- What std sorts by the order of playback is arranged.
use Rattle.std.proofs.Common.{◌≡◌, ℕ, zero, suc, ◌<◌, ◌⊎◌, inl, inr, nat_lt, nat_eq, Bool, true, false, ◌&&◌, ◌||◌, List, [], ◌∷◌, length, get_or, set, refl, sym, ap, ap₂, ◌∙◌, subst, arith, add-one}
use Rattle.std.specs.Prelude.{int_lt}
use Rattle.std.specs.Ordering.{int_eq}
use Rattle.std.specs.List.{swap as swap_places}
use Rattle.std.specs.List.Sorted.{IsPermutation, IsSortedBy}
use Rattle.std.proofs.lemmas.List.Sorted.{IsPermutation-keeps}
use Rattle.std.proofs.lemmas.Bool.Decides.{Decides-int_eq, nat_tests}
use Rattle.world_laws.proofs.Perms.{Perm, keep, swap, follow, perm_self, perm_back}
use Rattle.run_model.specs.Run.{Entry}
use Rattle.run_model.specs.Buffers.{before, arranged}
use Rattle.run_laws.specs.Entries.{AreDifferent}
use Rattle.run_laws.proofs.Sorts.{Sorted, sorted_stays, sort_perm, key_later, key_self, key_same, false_when}

module _ {X : Type 0} where
  set_perm : (xs : List X) (i : ℕ) (a d : X) → i < length xs → Perm X (get_or xs i d ∷ set xs i a) (a ∷ xs)
  set_perm [] i a d less = absurd (omega arith)
  set_perm (x ∷ xs) zero a d less = swap x a xs
  set_perm (x ∷ xs) (suc i) a d less =
      follow (swap (get_or xs i d) x (set xs i a)) (follow (keep x (set_perm xs i a d (omega arith))) (swap x a xs))

  swapped_perm : (d : X) (xs : List X) (i j : ℕ) → i < length xs → j < length xs → Perm X xs (set (set xs i (get_or xs j d)) j (get_or xs i d))
  swapped_perm d [] i j less also = absurd (omega arith)
  swapped_perm d (x ∷ xs) zero zero less also = perm_self (x ∷ xs)
  swapped_perm d (x ∷ xs) zero (suc j) less also = perm_back (set_perm xs j x d (omega arith))
  swapped_perm d (x ∷ xs) (suc i) zero less also = perm_back (set_perm xs i x d (omega arith))
  swapped_perm d (x ∷ xs) (suc i) (suc j) less also = keep x (swapped_perm d xs i j (omega arith) (omega arith))

  pub perm_from : (xs ys : List X) → IsPermutation xs ys → Perm X xs ys
  perm_from xs ys h = IsPermutation-keeps xs (Perm X xs) (perm_self xs) by ys h
    where
      by : (l : List X) (i j : ℕ) → i < length l → j < length l → Perm X xs l → Perm X xs (swap_places l i j)
      by [] i j less also p = p
      by (y ∷ ys) i j less also p = follow p (swapped_perm y (y ∷ ys) i j less also)

  sorted_from : (lt : X → X → Bool) (xs : List X) → IsSortedBy lt xs → Sorted lt xs
  sorted_from lt [] h = tt
  sorted_from lt (x ∷ []) h = tt
  sorted_from lt (x ∷ y ∷ ys) h = (h 0 x (omega arith) (omega arith), sorted_from lt (y ∷ ys) behind)
    where
      behind : IsSortedBy lt (y ∷ ys)
      behind k d least less = rw add-one (let g = h (suc k) d (omega arith) (omega arith) in rw add-one at g)

abbrev pub is_recorded_before : ℕ → ℕ → ℕ → ℕ → ℕ → ℕ → Bool
is_recorded_before i p m j q n = nat_lt i j || (nat_eq i j && (nat_lt p q || (nat_eq p q && nat_lt m n)))

spot_later : (i p m j q n k r o : ℕ) → is_recorded_before i p m j q n ≡ true → is_recorded_before j q n k r o ≡ true → is_recorded_before i p m k r o ≡ true
spot_later i p m j q n k r o e f = grind (arith, nat_tests)

spot_self : (i p m : ℕ) → is_recorded_before i p m i p m ≡ true → ⊥
spot_self i p m e = grind (arith, nat_tests)

spot_same : (i p m j q n : ℕ) → is_recorded_before i p m j q n ≡ false → is_recorded_before j q n i p m ≡ false → (i ≡ j) × (p ≡ q) × (m ≡ n)
spot_same i p m j q n e f = grind (arith, nat_tests)

-- ---- the order of entries

abbrev pub inner : Entry → Entry → Bool
inner x y = is_recorded_before x.item x.place x.command.number y.item y.place y.command.number

abbrev pub Before : Entry → Entry → Type 0
Before x y = (int_lt x.command.key y.command.key ≡ true) ⊎ ((x.command.key ≡ y.command.key) × (inner x y ≡ true))

pub before_is : (x y : Entry) → before x y ≡ true → Before x y
before_is x y h = by (int_lt x.command.key y.command.key) (int_eq x.command.key y.command.key) refl (Decides-int_eq x.command.key y.command.key).0 h
  where
    by : (b c : Bool) → int_lt x.command.key y.command.key ≡ b → (c ≡ true → x.command.key ≡ y.command.key) → (b || (c && inner x y)) ≡ true → Before x y
    by true c e same h = inl e
    by false true e same h = inr (same refl, h)
    by false false e same h = absurd (cc)

is_before : (x y : Entry) → Before x y → before x y ≡ true
is_before x y (inl e) = rw e refl
is_before x y (inr h) = by (int_lt x.command.key y.command.key)
  where
    by : (b : Bool) → (b || (int_eq x.command.key y.command.key && inner x y)) ≡ true
    by true = refl
    by false = ap₂ (λ s t. s && t) ((Decides-int_eq x.command.key y.command.key).1 h.0) h.1

before_later : (x y z : Entry) → before x y ≡ true → before y z ≡ true → before x z ≡ true
before_later x y z e f = is_before x z (by (before_is x y e) (before_is y z f))
  where
    by : Before x y → Before y z → Before x z
    by (inl e) (inl f) = inl (key_later x.command.key y.command.key z.command.key e f)
    by (inl e) (inr f) = inl (subst (λ k. int_lt x.command.key k ≡ true) f.0 e)
    by (inr e) (inl f) = inl (subst (λ k. int_lt k z.command.key ≡ true) (sym e.0) f)
    by (inr e) (inr f) = inr (e.0 ∙ f.0, spot_later x.item x.place x.command.number y.item y.place y.command.number z.item z.place z.command.number e.1 f.1)

before_once : (x y : Entry) → before x y ≡ true → before y x ≡ false
before_once x y e = false_when (before y x) (λ f. by (before_is x x (before_later x y x e f)))
  where
    by : Before x x → ⊥
    by (inl e) = key_self x.command.key e
    by (inr e) = spot_self x.item x.place x.command.number e.1

-- two entries of which neither is before the other agree in item, place and number
before_same : (x y : Entry) → before x y ≡ false → before y x ≡ false → (x.item ≡ y.item) × (x.place ≡ y.place) × (x.command.number ≡ y.command.number)
before_same x y e f = by (int_lt x.command.key y.command.key) (int_lt y.command.key x.command.key) refl refl e f
  where
    by : (b c : Bool) → int_lt x.command.key y.command.key ≡ b → int_lt y.command.key x.command.key ≡ c
        → (b || (int_eq x.command.key y.command.key && inner x y)) ≡ false → (c || (int_eq y.command.key x.command.key && inner y x)) ≡ false
        → (x.item ≡ y.item) × (x.place ≡ y.place) × (x.command.number ≡ y.command.number)
    by true c g h e f = absurd (cc)
    by false true g h e f = absurd (cc)
    by false false g h e f =
        let same : x.command.key ≡ y.command.key = key_same x.command.key y.command.key g h in
        spot_same x.item x.place x.command.number y.item y.place y.command.number
        (ap (λ t. t && inner x y) (sym ((Decides-int_eq x.command.key y.command.key).1 same)) ∙ e)
        (ap (λ t. t && inner y x) (sym ((Decides-int_eq y.command.key x.command.key).1 (sym same))) ∙ f)

-- what has the same entries in order is arranged
pub arranged_is : (es fs : List Entry) → AreDifferent es → IsPermutation es fs → IsSortedBy before fs → arranged es ≡ fs
unfolding arranged
arranged_is es fs two moved sorted =
    sort_perm before before_later before_once (perm_from es fs moved)
    (λ x y i j e f. (let s = before_same x y e f in two x y i j s.0 s.1 s.2))
    ∙ sorted_stays before fs (sorted_from before fs sorted)
