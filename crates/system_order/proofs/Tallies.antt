-- How often a number is in a list.
use Rattle.std.proofs.Common.{◌≡◌, ℕ, ◌+◌, ◌-◌, ◌<◌, ◌≤◌, suc, zero, eqb, Bool, cond, true, false, inl, inr, List, [], ◌∷◌, ◌++◌, length, count_by, ap, ◌∙◌, sym, refl, arith}
use Rattle.std.specs.List.{filter, range_with_len}
use Rattle.std.proofs.lemmas.Bool.{cases_eq, cases_lt, cond-false, cond-true, eq-eqb, ne_eqb}
use Rattle.std.proofs.lemmas.List.Sums.{sum_by-cons}

-- 1 where two numbers are equal
abbrev pub same : ℕ → ℕ → ℕ
same y x = cond (eqb y x) 1 0

pub same_yes : (y x : ℕ) → y ≡ x → same y x ≡ 1
same_yes y x e = cond-true (eqb y x) 1 0 (eq-eqb y x e)

pub same_no : (y x : ℕ) → (y ≡ x → ⊥) → same y x ≡ 0
same_no y x e = cond-false (eqb y x) 1 0 (ne_eqb y x e)

pub same-sym : (y x : ℕ) → same y x ≡ same x y
same-sym y x =
    elim (cases_eq y x) [
      | inl e ↦ same_yes y x e ∙ sym (same_yes x y (sym e))
      | inr apart ↦ same_no y x apart ∙ sym (same_no x y (λ e. apart (sym e)))
    ]

-- how often a number is in a list, counted from its front
abbrev pub tally : ℕ → List ℕ → ℕ
tally x [] = 0
tally x (y ∷ ys) = same y x + tally x ys

pub count_is_tally : (x : ℕ) (xs : List ℕ) → count_by (λ y. eqb y x) xs ≡ tally x xs
count_is_tally x [] = refl
count_is_tally x (y ∷ ys) = sum_by-cons (λ z. same z x) y ys ∙ ap (λ n. same y x + n) (count_is_tally x ys)

pub tally-append : (x : ℕ) (xs ys : List ℕ) → tally x (xs ++ ys) ≡ tally x xs + tally x ys
tally-append x [] ys = omega arith
tally-append x (z ∷ xs) ys = omega (arith, tally-append x xs ys)

tally_kept : (keeps : Bool) (y x : ℕ) (kept : List ℕ) → tally x (cond keeps (y ∷ kept) kept) ≡ cond keeps (same y x) 0 + tally x kept
tally_kept true y x kept = refl
tally_kept false y x kept = omega arith

-- numbers that pass are counted where the counted one passes
kept_pass : (p q : Bool) (e n : ℕ) → p ≡ q → cond p e 0 + cond q n 0 ≡ cond q (e + n) 0
kept_pass true true e n h = refl
kept_pass false false e n h = refl
kept_pass true false e n h = cc
kept_pass false true e n h = cc

none_pass : (p q : Bool) (e n : ℕ) → e ≡ 0 → cond p e 0 + cond q n 0 ≡ cond q (e + n) 0
none_pass true true e n h = refl
none_pass true false e n h = omega (arith, h)
none_pass false true e n h = omega (arith, h)
none_pass false false e n h = refl

no_pass : (q : Bool) (n : ℕ) → n ≡ 0 → n ≡ cond q n 0
no_pass true n h = refl
no_pass false n h = h

pub tally-filter : (p : ℕ → Bool) (x : ℕ) (xs : List ℕ) → tally x (filter p xs) ≡ cond (p x) (tally x xs) 0
tally-filter p x [] = no_pass (p x) (tally x []) refl
tally-filter p x (y ∷ ys) =
    tally_kept (p y) y x (filter p ys)
    ∙ ap (λ n. cond (p y) (same y x) 0 + n) (tally-filter p x ys)
    ∙ (elim (cases_eq y x) [
      | inl e ↦ kept_pass (p y) (p x) (same y x) (tally x ys) (ap p e)
      | inr apart ↦ none_pass (p y) (p x) (same y x) (tally x ys) (same_no y x apart)
    ])

pub tally_below : (x start n : ℕ) → x < start → tally x (range_with_len start n) ≡ 0
tally_below x start zero h = refl
tally_below x start (suc n) h = omega (arith, same_no start x (λ e. omega (arith, e, h)), tally_below x (start + 1) n (omega (arith, h)))

pub tally_past : (x start n : ℕ) → start + n ≤ x → tally x (range_with_len start n) ≡ 0
tally_past x start zero h = refl
tally_past x start (suc n) h = omega (arith, same_no start x (λ e. omega (arith, e, h)), tally_past x (start + 1) n (omega (arith, h)))

pub tally_within : (x start n : ℕ) → start ≤ x → x < start + n → tally x (range_with_len start n) ≡ 1
tally_within x start zero low high = absurd (omega (arith, low, high))
tally_within x start (suc n) low high =
    elim (cases_eq start x) [
      | inl e ↦ omega (arith, same_yes start x e, tally_below x (start + 1) n (omega (arith, e)))
      | inr apart ↦ omega (arith, same_no start x apart, tally_within x (start + 1) n (omega (arith, apart, low)) (omega (arith, high)))
    ]
