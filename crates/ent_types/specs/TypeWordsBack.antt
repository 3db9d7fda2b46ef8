-- the types of a set give its words back
use Rattle.std.proofs.Common.{◌≡◌, ℕ, zero, suc, ◌+◌, ◌*◌, ◌/◌, ◌%◌, ◌^◌, ◌<◌, eqb, List, [], ◌∷◌, length, refl, sym, ap, ap₂, ◌∙◌, subst, arith, eqb-true, true, pow-suc, All, add-one, lit<, mul_comm, zero-lt-suc}
use native.Mathlib.Nat.{zero-mul, mul-one}
use Rattle.std.proofs.lemmas.Bool.{cond_both, eqb-false}
use Rattle.std.proofs.lemmas.Nat.{shr_below, mul-add-lt, mod_low, shr_high, pow-add}
use Rattle.std.proofs.lemmas.List.Elements.{All-tail}
use Rattle.std.proofs.lemmas.Slice.Eq.{bytes_eq-Decides}
use Rattle.std.specs.Cmp.Lexicographic.{pointwise}
use Rattle.ent_types.specs.TypeWords.{ones_from, number_of, types_of, number_with, words_from, words_of, IsWords}

-- one binary digit: what is above it counts double
digit_step : (p h rest : ℕ) → rest ≡ h * (2 * p) → p + rest ≡ (2 * h + 1) * p
digit_step p h rest r = grind arith

digit_step' : (p h rest : ℕ) → rest ≡ h * (2 * p) → rest ≡ (2 * h + 0) * p
digit_step' p h rest r = grind arith

pow-add_one : (at : ℕ) → 2 ^ (at + 1) ≡ 2 * 2 ^ at
pow-add_one at = ap (λ k. 2 ^ k) (add-one at) ∙ pow-suc 2 at ∙ mul_comm (2 ^ at) 2

odd : (n : ℕ) → n % 2 ≡ 1 → n ≡ 2 * (n / 2) + 1
odd n e = omega arith

even : (n : ℕ) → (n % 2 ≡ 1 → ⊥) → n ≡ 2 * (n / 2) + 0
even n e = omega arith

half_below : (n count : ℕ) → n < 2 ^ suc count → n / 2 < 2 ^ count
half_below n count within = shr_below n count 1 (subst (λ k. n < 2 ^ k) (sym (add-one count)) within)

-- the ones of a number give the number back
pub number_with-ones_from : (at count n : ℕ) → n < 2 ^ count → number_with (ones_from at count n) ≡ n * 2 ^ at
unfolding ones_from
number_with-ones_from at zero n within = let none : n ≡ 0 = omega arith in sym (ap (λ m. m * 2 ^ at) none ∙ zero-mul (2 ^ at))
number_with-ones_from at (suc count) n within =
    let rest : number_with (ones_from (at + 1) count (n / 2)) ≡ n / 2 * (2 * 2 ^ at) =
    number_with-ones_from (at + 1) count (n / 2) (half_below n count within) ∙ ap (λ p. n / 2 * p) (pow-add_one at) in
    cond_both (eqb (n % 2) 1) (at ∷ ones_from (at + 1) count (n / 2)) (ones_from (at + 1) count (n / 2))
    (λ types. number_with types ≡ n * 2 ^ at)
    (λ e. digit_step (2 ^ at) (n / 2) _ rest ∙ sym (ap (λ m. m * 2 ^ at) (odd n (eqb-true (n % 2) 1 e))))
    (λ ne. digit_step' (2 ^ at) (n / 2) _ rest ∙ sym (ap (λ m. m * 2 ^ at) (even n (eqb-false (n % 2) 1 ne))))

-- some words are below the power of their bits
pub number_of_below : (words : List ℕ) → All (λ w. w < 2 ^ 64) words → number_of words < 2 ^ (64 * length words)
number_of_below [] within = lit< tt
number_of_below (w ∷ ws) within =
    let rest : number_of ws < 2 ^ (64 * length ws) = number_of_below ws (All-tail (λ w. w < 2 ^ 64) w ws within) in
    let bits : 64 * suc (length ws) ≡ 64 + 64 * length ws = omega arith in
    let below : number_of ws * 2 ^ 64 + w < 2 ^ 64 * 2 ^ (64 * length ws) =
    mul-add-lt (number_of ws) (2 ^ 64) w (2 ^ (64 * length ws)) rest (within 0 0 (zero-lt-suc (length ws))) in
    rw (bits, pow-add) (omega arith)

-- the number of some words gives the words back
pub words_from-number_of : (words : List ℕ) → All (λ w. w < 2 ^ 64) words → words_from (length words) (number_of words) ≡ words
words_from-number_of [] within = refl
words_from-number_of (w ∷ ws) within =
    let here : w < 2 ^ 64 = within 0 0 (zero-lt-suc (length ws)) in
    let rest : words_from (length ws) (number_of ws) ≡ ws = words_from-number_of ws (All-tail (λ w. w < 2 ^ 64) w ws within) in
    let turned : w + 2 ^ 64 * number_of ws ≡ number_of ws * 2 ^ 64 + w = omega arith in
    ap₂ (λ low high. low ∷ words_from (length ws) high)
    (ap (λ n. n % 2 ^ 64) turned ∙ mod_low (number_of ws) 64 w here)
    (ap (λ n. n / 2 ^ 64) turned ∙ shr_high (number_of ws) 64 w here)
    ∙ ap (λ l. w ∷ l) rest

-- the types give the words back
pub words_of-types_of : (words : List ℕ) → IsWords words → words_of (types_of words) ≡ words
words_of-types_of words holds =
    let bits : 64 * length words ≡ 256 = omega (arith, holds.four) in
    let below : number_of words < 2 ^ 256 = subst (λ k. number_of words < 2 ^ k) bits (number_of_below words holds.within) in
    ap (words_from 4) (number_with-ones_from 0 256 (number_of words) below ∙ mul-one (number_of words))
    ∙ ap (λ k. words_from k (number_of words)) (sym holds.four)
    ∙ words_from-number_of words holds.within

-- sets that are equal as the code compares them are one, so whatever is made of them is one too
pub same_fed : {X : Type 0} (f : List ℕ → X) (a b : List ℕ) → pointwise eqb a b ≡ true → f a ≡ f b
same_fed f a b equal = ap f ((bytes_eq-Decides a b).0 equal)
