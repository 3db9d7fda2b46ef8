-- Rising ranks with one more and with one less.
use Rattle.std.proofs.Common.{◌≡◌, ◌≢◌, ◌⊎◌, ℕ, zero, suc, ◌+◌, ◌-◌, ◌<◌, ◌≤◌, nat_lt, set, inl, inr, Bool, true, false, not, cond, ◌&&◌, ◌||◌, nat_eq, List, [], ◌∷◌, ◌++◌, length, get_or, map, filter, refl, sym, ap, ◌∙◌, subst, arith}
use Rattle.std.specs.List.{list_any, insert, remove, swap_remove}
use Rattle.std.proofs.lemmas.Bool.{cases_eq, cases_lt, eq-eqb, ne_eqb, false≢true, le-ltb, lt-ltb}
use Rattle.std.proofs.lemmas.List.{length-append, length-set, length-take}
use Rattle.std.proofs.lemmas.List.Folds.{list_any-append}
use Rattle.std.proofs.lemmas.List.Sorted.{IsPermutation-insert, IsPermutation-remove, list_any-IsPermutation, length_permutation}
use Rattle.world_model.specs.Members.{In, IsRising}
use Rattle.archetype_store.specs.Homes.{TakesRank, LosesRank}
use Rattle.archetype_store.proofs.Ranks.{at-in, in-at, removed-is, rising-at}

pub has-in : (r : ℕ) (xs : List ℕ) → list_any (nat_eq r) xs ≡ true → In r xs
has-in r [] is = absurd (false≢true is)
has-in r (x ∷ xs) is =
    elim (cases_eq r x) [
      | inl e ↦ inl e
      | inr apart ↦ inr (has-in r xs (sym (ap (λ b. b || list_any (nat_eq r) xs) (ne_eqb r x apart)) ∙ is))
    ]

pub in-has : (r : ℕ) (xs : List ℕ) → In r xs → list_any (nat_eq r) xs ≡ true
in-has r [] is = absurd is
in-has r (x ∷ xs) (inl e) = ap (λ b. b || list_any (nat_eq r) xs) (eq-eqb r x e)
in-has r (x ∷ xs) (inr is) = by (nat_eq r x) (in-has r xs is)
  where
    by : (b : Bool) → list_any (nat_eq r) xs ≡ true → (b || list_any (nat_eq r) xs) ≡ true
    by true rest = refl
    by false rest = rest

in-insert : (xs : List ℕ) (i y u : ℕ) → In u (insert xs i y) → (u ≡ y) ⊎ In u xs
in-insert [] zero y u (inl e) = inl e
in-insert [] zero y u (inr is) = absurd is
in-insert [] (suc i) y u (inl e) = inl e
in-insert [] (suc i) y u (inr is) = absurd is
in-insert (x ∷ xs) zero y u (inl e) = inl e
in-insert (x ∷ xs) zero y u (inr is) = inr is
in-insert (x ∷ xs) (suc i) y u (inl e) = inr (inl e)
in-insert (x ∷ xs) (suc i) y u (inr is) = by (in-insert xs i y u is)
  where
    by : (u ≡ y) ⊎ In u xs → (u ≡ y) ⊎ In u (x ∷ xs)
    by (inl e) = inl e
    by (inr there) = inr (inr there)

below-all : (xs : List ℕ) (y : ℕ) → ((k : ℕ) → k < length xs → y < get_or xs k 0) → (u : ℕ) → In u xs → y < u
below-all xs y below u is = let at = at-in xs u is in subst (λ v. y < v) at.1.1 (below at.0 at.1.0)

pub rising-insert : (xs : List ℕ) (i y : ℕ) → IsRising xs → i ≤ length xs → ((k : ℕ) → k < i → get_or xs k 0 < y) → ((k : ℕ) → i ≤ k → k < length xs → y < get_or xs k 0) → IsRising (insert xs i y)
rising-insert [] zero y rising within before after = (λ u is. absurd is, tt)
rising-insert [] (suc i) y rising within before after = absurd (omega (arith, within))
rising-insert (x ∷ xs) zero y rising within before after = (below-all (x ∷ xs) y (λ k below. after k (omega arith) below), rising)
rising-insert (x ∷ xs) (suc i) y rising within before after = (
  λ u is. by u (in-insert xs i y u is),
  rising-insert xs i y rising.1 (omega (arith, within)) (λ k less. before (suc k) (omega (arith, less))) (λ k more below. after (suc k) (omega (arith, more)) (omega (arith, below))),
)
  where
    by : (u : ℕ) → (u ≡ y) ⊎ In u xs → x < u
    by u (inl e) = omega (arith, before zero (omega arith), e)
    by u (inr is) = rising.0 u is

pub takes-rank : (xs : List ℕ) (i y : ℕ) → IsRising xs → i ≤ length xs → ((k : ℕ) → k < i → get_or xs k 0 < y) → ((k : ℕ) → i ≤ k → k < length xs → y < get_or xs k 0) → TakesRank xs (insert xs i y) y
takes-rank xs i y rising within before after = record {
  has = λ r. sym (list_any-IsPermutation (nat_eq r) (y ∷ xs) (insert xs i y) (IsPermutation-insert xs i y));
  rising = rising-insert xs i y rising within before after;
  count = omega (arith, length_permutation (y ∷ xs) (insert xs i y) (IsPermutation-insert xs i y));
}

-- one more at the end
in-append : (xs : List ℕ) (y u : ℕ) → In u (xs ++ y ∷ []) → (u ≡ y) ⊎ In u xs
in-append [] y u (inl e) = inl e
in-append [] y u (inr is) = absurd is
in-append (x ∷ xs) y u (inl e) = inr (inl e)
in-append (x ∷ xs) y u (inr is) = by (in-append xs y u is)
  where
    by : (u ≡ y) ⊎ In u xs → (u ≡ y) ⊎ In u (x ∷ xs)
    by (inl e) = inl e
    by (inr there) = inr (inr there)

rising-append : (xs : List ℕ) (y : ℕ) → IsRising xs → ((u : ℕ) → In u xs → u < y) → IsRising (xs ++ y ∷ [])
rising-append [] y rising above = (λ u is. absurd is, tt)
rising-append (x ∷ xs) y rising above = (λ u is. by u (in-append xs y u is), rising-append xs y rising.1 (λ u is. above u (inr is)))
  where
    by : (u : ℕ) → (u ≡ y) ⊎ In u xs → x < u
    by u (inl e) = omega (arith, above x (inl refl), e)
    by u (inr is) = rising.0 u is

pub takes-last : (xs : List ℕ) (y : ℕ) → IsRising xs → ((u : ℕ) → In u xs → u < y) → TakesRank xs (xs ++ y ∷ []) y
takes-last xs y rising above = record {
  has = λ r. list_any-append (nat_eq r) xs (y ∷ []) ∙ turned (list_any (nat_eq r) xs) (nat_eq r y);
  rising = rising-append xs y rising above;
  count = length-append xs (y ∷ []);
}
  where
    turned : (a b : Bool) → (a || (b || false)) ≡ (b || a)
    turned true true = refl
    turned true false = refl
    turned false true = refl
    turned false false = refl

-- ---- one less

lost : (n : ℕ) (xs : List ℕ) → list_any (nat_eq n) (filter (λ m. not (nat_eq m n)) xs) ≡ false
lost n [] = refl
lost n (x ∷ xs) =
    elim (cases_eq x n) [
      | inl e ↦ ap (λ b. list_any (nat_eq n) (cond (not b) (x ∷ filter (λ m. not (nat_eq m n)) xs) (filter (λ m. not (nat_eq m n)) xs))) (eq-eqb x n e) ∙ lost n xs
      | inr apart ↦
          ap (λ b. list_any (nat_eq n) (cond (not b) (x ∷ filter (λ m. not (nat_eq m n)) xs) (filter (λ m. not (nat_eq m n)) xs))) (ne_eqb x n apart)
          ∙ ap (λ b. b || list_any (nat_eq n) (filter (λ m. not (nat_eq m n)) xs)) (ne_eqb n x (λ e. apart (sym e))) ∙ lost n xs
    ]

others-has : (n r : ℕ) → r ≢ n → (xs : List ℕ) → list_any (nat_eq r) (filter (λ m. not (nat_eq m n)) xs) ≡ list_any (nat_eq r) xs
others-has n r differ [] = refl
others-has n r differ (x ∷ xs) =
    elim (cases_eq x n) [
      | inl e ↦
          ap (λ b. list_any (nat_eq r) (cond (not b) (x ∷ filter (λ m. not (nat_eq m n)) xs) (filter (λ m. not (nat_eq m n)) xs))) (eq-eqb x n e)
          ∙ others-has n r differ xs ∙ sym (ap (λ b. b || list_any (nat_eq r) xs) (ne_eqb r x (λ s. differ (s ∙ e))))
      | inr apart ↦
          ap (λ b. list_any (nat_eq r) (cond (not b) (x ∷ filter (λ m. not (nat_eq m n)) xs) (filter (λ m. not (nat_eq m n)) xs))) (ne_eqb x n apart)
          ∙ ap (λ b. nat_eq r x || b) (others-has n r differ xs)
    ]

in-filter : (p : ℕ → Bool) (xs : List ℕ) (u : ℕ) → In u (filter p xs) → In u xs
in-filter p [] u is = absurd is
in-filter p (x ∷ xs) u is = by (p x) (λ there. in-filter p xs u there) is
  where
    by : (b : Bool) → (In u (filter p xs) → In u xs) → In u (cond b (x ∷ filter p xs) (filter p xs)) → In u (x ∷ xs)
    by true rest (inl e) = inl e
    by true rest (inr there) = inr (rest there)
    by false rest there = inr (rest there)

rising-filter : (p : ℕ → Bool) (xs : List ℕ) → IsRising xs → IsRising (filter p xs)
rising-filter p [] rising = tt
rising-filter p (x ∷ xs) rising = by (p x) (rising-filter p xs rising.1)
  where
    by : (b : Bool) → IsRising (filter p xs) → IsRising (cond b (x ∷ filter p xs) (filter p xs))
    by true rest = (λ u is. rising.0 u (in-filter p xs u is), rest)
    by false rest = rest

map-self : (xs : List ℕ) → map (λ (x : ℕ). x) xs ≡ xs
map-self [] = refl
map-self (x ∷ xs) = ap (λ ys. x ∷ ys) (map-self xs)

pub loses-rank : (xs : List ℕ) (i y : ℕ) → IsRising xs → i < length xs → get_or xs i 0 ≡ y → LosesRank xs (remove xs i) y
loses-rank xs i y rising below is = record {
  has = λ r. ap (list_any (nat_eq r)) removed ∙ by r;
  rising = subst IsRising (sym removed) (rising-filter (λ m. not (nat_eq m y)) xs rising);
  count = omega (arith, length_permutation xs (get_or xs i 0 ∷ remove xs i) (IsPermutation-remove xs i (get_or xs i 0) below (self xs i 0 below)));
}
  where
    removed : remove xs i ≡ filter (λ m. not (nat_eq m y)) xs
    removed = removed-is (λ x. x) xs i y (subst IsRising (sym (map-self xs)) rising) below is

    by : (r : ℕ) → list_any (nat_eq r) (filter (λ m. not (nat_eq m y)) xs) ≡ (not (nat_eq r y) && list_any (nat_eq r) xs)
    by r =
        elim (cases_eq r y) [
          | inl e ↦ ap (λ k. list_any (nat_eq k) (filter (λ m. not (nat_eq m y)) xs)) e ∙ lost y xs ∙ sym (ap (λ b. not b && list_any (nat_eq r) xs) (eq-eqb r y e))
          | inr apart ↦ others-has y r apart xs ∙ sym (ap (λ b. not b && list_any (nat_eq r) xs) (ne_eqb r y apart))
        ]

    self : (zs : List ℕ) (k d : ℕ) → k < length zs → get_or zs k d ≡ get_or zs k (get_or zs k d)
    self [] k d less = absurd (omega (arith, less))
    self (z ∷ zs) zero d less = refl
    self (z ∷ zs) (suc k) d less = self zs k d (omega (arith, less))

-- the first of rising ranks is the least
pub least : (x : ℕ) (xs : List ℕ) (r : ℕ) → IsRising (x ∷ xs) → list_any (nat_eq r) (x ∷ xs) ≡ true → x ≤ r
least x xs r rising has = by (has-in r (x ∷ xs) has)
  where
    by : In r (x ∷ xs) → x ≤ r
    by (inl e) = omega (arith, e)
    by (inr is) = omega (arith, rising.0 r is)

-- ---- what a search finds

pub ordered : (xs : List ℕ) → IsRising xs → (i j : ℕ) → i ≤ j → j < length xs → get_or xs i 0 ≤ get_or xs j 0
ordered xs rising i j less below =
    elim (cases_eq i j) [
      | inl same ↦ omega (arith, ap (λ k. get_or xs k 0) same)
      | inr apart ↦ omega (arith, rising-at xs rising i j (omega (arith, less, apart)) below)
    ]

pub has-at : (xs : List ℕ) (i y : ℕ) → i < length xs → get_or xs i 0 ≡ y → list_any (nat_eq y) xs ≡ true
has-at xs i y below is = in-has y xs (subst (λ x. In x xs) is (in-at xs i below))

pub has-not : (xs : List ℕ) (i y : ℕ) → ((k : ℕ) → k < i → get_or xs k 0 < y) → ((k : ℕ) → i ≤ k → k < length xs → y < get_or xs k 0) → list_any (nat_eq y) xs ≡ true → ⊥
has-not xs i y before after has =
    let at = at-in xs y (has-in y xs has) in
    elim (cases_lt at.0 i) [
      | inl less ↦ omega (arith, before at.0 less, at.1.1)
      | inr more ↦ omega (arith, after at.0 more at.1.0, at.1.1)
    ]

-- ---- rows

pub length-removed : {X : Type 0} (xs : List X) (i : ℕ) (d : X) → length (swap_remove xs i d) ≡ length xs - 1
length-removed xs i d = length-take (length xs - 1) (set xs i (get_or xs (length xs - 1) d)) ∙ omega (arith, length-set xs i (get_or xs (length xs - 1) d))

pub room-left : (l c : ℕ) → l < c → nat_lt 1 (c - l) ≡ nat_lt (l + 1) c
room-left l c less =
    elim (cases_lt (l + 1) c) [
      | inl more ↦ lt-ltb 1 (c - l) (omega (arith, more)) ∙ sym (lt-ltb (l + 1) c more)
      | inr none ↦ le-ltb 1 (c - l) (omega (arith, none)) ∙ sym (le-ltb (l + 1) c none)
    ]
