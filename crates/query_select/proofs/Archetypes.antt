-- The archetypes that a cache looks at.
use Rattle.std.proofs.Common.{◌≡◌, ℕ, ◌+◌, ◌-◌, ◌<◌, ◌≤◌, inl, inr, nat_eq, Bool, true, false, ◌&&◌, ◌||◌, cond, List, [], ◌∷◌, ◌++◌, length, filter, take, refl, sym, ap, ap₂, ◌∙◌, arith, zero, suc, append_assoc}
use Rattle.std.specs.List.{range_with_len}
use Rattle.std.proofs.Math.Seq.{take-append_seam}
use Rattle.std.proofs.lemmas.Bool.{eqb-true, and_right}
use Rattle.ent_types.specs.TypeSets.{has_type, with_type}
use Rattle.ent_types.proofs.TypeSetLemmas.{has_type-with_type}
use Rattle.world_model.specs.Members.{In, IsRising}
use Rattle.world_laws.proofs.Members.{in_filter}
use Rattle.world_laws.proofs.Types.{filter_rising}

-- ---- archetypes that are left

module _ (p : ℕ → Bool) (n : ℕ) where
  abbrev pub left : ℕ → List ℕ
  left k = filter p (range_with_len k (n - k))

  left_one : (k : ℕ) → k < n → left k ≡ cond (p k) (k ∷ left (k + 1)) (left (k + 1))
  left_one k below = let more : n - k ≡ suc (n - (k + 1)) = omega arith in ap (λ m. filter p (range_with_len k m)) more

  -- one that passes goes to the end of what there is
  pub one_taken : (k : ℕ) (before after : List ℕ) → k < n → p k ≡ true → after ≡ before ++ k ∷ [] → after ++ left (k + 1) ≡ before ++ left k
  one_taken k before after below passes is =
      ap (λ xs. xs ++ left (k + 1)) is ∙ append_assoc before (k ∷ []) (left (k + 1)) ∙ ap (λ xs. before ++ xs) (sym (left_one k below ∙ ap (λ b. cond b (k ∷ left (k + 1)) (left (k + 1))) passes))

  pub one_passed : (k : ℕ) (before : List ℕ) → k < n → p k ≡ false → before ++ left (k + 1) ≡ before ++ left k
  one_passed k before below fails = ap (λ xs. before ++ xs) (sym (left_one k below ∙ ap (λ b. cond b (k ∷ left (k + 1)) (left (k + 1))) fails))

  pub none_left : (k : ℕ) → n ≤ k → left k ≡ []
  none_left k past = let none : n - k ≡ 0 = omega arith in ap (λ m. filter p (range_with_len k m)) none

-- ---- types that can be disabled

or_true : (b : Bool) → (b || true) ≡ true
or_true true = refl
or_true false = refl

-- where it is the same type, both tests have the answer of that type
same_type : (en : ℕ → Bool) (ty t : ℕ) (b : Bool) → nat_eq ty t ≡ true → en ty ≡ b → en t ≡ b
same_type en ty t b e is = ap en (sym (eqb-true ty t e)) ∙ is

module _ (en : ℕ → Bool) (before : List ℕ) (ty : ℕ) (ts : List ℕ) (t : ℕ) where
  -- one more type that can be
  pub one_enableable : en ty ≡ true → (has_type (with_type before ty) t || (has_type ts t && en t)) ≡ (has_type before t || (has_type (ty ∷ ts) t && en t))
  one_enableable is = ap (λ b. b || (has_type ts t && en t)) (has_type-with_type before ty t) ∙ by (nat_eq ty t) refl
    where
      by : (b : Bool) → nat_eq ty t ≡ b → ((b || has_type before t) || (has_type ts t && en t)) ≡ (has_type before t || ((b || has_type ts t) && en t))
      by true e = sym (ap (λ r. has_type before t || r) (same_type en ty t true e is) ∙ or_true (has_type before t))
      by false e = refl

  -- one that can't
  pub one_lasting : en ty ≡ false → (has_type before t || (has_type ts t && en t)) ≡ (has_type before t || (has_type (ty ∷ ts) t && en t))
  one_lasting is = by (nat_eq ty t) refl
    where
      by : (b : Bool) → nat_eq ty t ≡ b → (has_type before t || (has_type ts t && en t)) ≡ (has_type before t || ((b || has_type ts t) && en t))
      by true e = ap (λ r. has_type before t || r) (and_right (has_type ts t) (en t) (same_type en ty t false e is) ∙ sym (same_type en ty t false e is))
      by false e = refl

-- ---- the first of rising numbers

in_take : (n : ℕ) (xs : List ℕ) (x : ℕ) → In x (take n xs) → In x xs
in_take zero xs x i = absurd i
in_take (suc n) [] x i = i
in_take (suc n) (y ∷ ys) x (inl e) = inl e
in_take (suc n) (y ∷ ys) x (inr i) = inr (in_take n ys x i)

pub take_rising : (n : ℕ) (xs : List ℕ) → IsRising xs → IsRising (take n xs)
take_rising zero xs rising = tt
take_rising (suc n) [] rising = tt
take_rising (suc n) (x ∷ xs) rising = (λ u i. rising.0 u (in_take n xs u i), take_rising n xs rising.1)

-- ---- all archetypes

pub in_range : (x start n : ℕ) → In x (range_with_len start n) → (start ≤ x) × (x < start + n)
in_range x start zero i = absurd i
in_range x start (suc n) (inl e) = (omega arith, omega arith)
in_range x start (suc n) (inr i) = let rest = in_range x (start + 1) n i in (omega (arith, rest.0), omega (arith, rest.1))

range_rising : (start n : ℕ) → IsRising (range_with_len start n)
range_rising start zero = tt
range_rising start (suc n) = (λ u i. let within = in_range u (start + 1) n i in omega (arith, within.0), range_rising (start + 1) n)

pub matching_rising : (p : ℕ → Bool) (n : ℕ) → IsRising (filter p (range_with_len 0 n))
matching_rising p n = filter_rising p (range_with_len 0 n) (range_rising 0 n)

pub matching_below : (p : ℕ → Bool) (n a : ℕ) → In a (filter p (range_with_len 0 n)) → a < n
matching_below p n a i = let within = in_range a 0 n (in_filter p a (range_with_len 0 n) i) in omega (arith, within.1)

split : (p : ℕ → Bool) (start a mid b whole : ℕ) → mid ≡ start + a → whole ≡ a + b → filter p (range_with_len start a) ++ filter p (range_with_len mid b) ≡ filter p (range_with_len start whole)
split p start zero mid b whole e f = let first : mid ≡ start = omega arith in let all : b ≡ whole = omega arith in ap₂ (λ m k. filter p (range_with_len m k)) first all
split p start (suc a) mid b zero e f = absurd (omega arith)
split p start (suc a) mid b (suc whole) e f = by (p start) (split p (start + 1) a mid b whole (omega arith) (omega arith))
  where
    by : (t : Bool) → filter p (range_with_len (start + 1) a) ++ filter p (range_with_len mid b) ≡ filter p (range_with_len (start + 1) whole)
        → cond t (start ∷ filter p (range_with_len (start + 1) a)) (filter p (range_with_len (start + 1) a)) ++ filter p (range_with_len mid b)
        ≡ cond t (start ∷ filter p (range_with_len (start + 1) whole)) (filter p (range_with_len (start + 1) whole))
    by true rest = ap (λ xs. start ∷ xs) rest
    by false rest = rest

-- the archetypes that were looked at before, and those after
pub matching_whole : (p : ℕ → Bool) (seen n : ℕ) → seen ≤ n → filter p (range_with_len 0 seen) ++ left p n seen ≡ filter p (range_with_len 0 n)
matching_whole p seen n within = split p 0 seen seen (n - seen) n (omega arith) (omega arith)

-- the first ones are those of before
pub first_kept : (p : ℕ → Bool) (seen n : ℕ) → seen ≤ n → take (length (filter p (range_with_len 0 seen))) (filter p (range_with_len 0 n)) ≡ filter p (range_with_len 0 seen)
first_kept p seen n within = ap (take (length (filter p (range_with_len 0 seen)))) (sym (matching_whole p seen n within)) ∙ take-append_seam (filter p (range_with_len 0 seen)) (left p n seen)
