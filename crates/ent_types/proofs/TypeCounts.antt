-- how many types words hold
use Rattle.std.proofs.Common.{◌≡◌, ℕ, zero, suc, ◌+◌, ◌*◌, ◌/◌, ◌%◌, ◌^◌, ◌<◌, ◌≤◌, eqb, List, [], ◌∷◌, length, sym, ap, ◌∙◌, subst, arith, All, zero-lt-suc, sum_by, count_ones, add_comm, add-one}
use Rattle.std.proofs.lemmas.Bool.{cond_both, eqb-false, eqb-true}
use Rattle.std.proofs.lemmas.List.Elements.{All-tail}
use Rattle.std.proofs.lemmas.List.Sums.{sum_by-cons}
use Rattle.std.proofs.lemmas.Nat.{ones_le_self, ones_cat, shr_below}
use Rattle.std.specs.Int.Count.{ones_step}
use Rattle.ent_types.specs.TypeWords.{ones_from, number_of, types_of, IsWords}
use Rattle.ent_types.specs.TypeWordsBack.{number_of_below}
use Rattle.ent_types.proofs.TypeBits.{IsRisingBelow-types_of}
use Rattle.ent_types.proofs.TypeSetLemmas.{length_rising}

no_ones : count_ones 0 ≡ 0
no_ones = omega (arith, ones_le_self 0)

length-ones_from : (at count n : ℕ) → n < 2 ^ count → length (ones_from at count n) ≡ count_ones n
unfolding ones_from
length-ones_from at zero n within = let none : n ≡ 0 = omega arith in sym (ap count_ones none ∙ no_ones)
length-ones_from at (suc count) n within =
    let half : n / 2 < 2 ^ count = shr_below n count 1 (subst (λ k. n < 2 ^ k) (sym (add-one count)) within) in
    let rest : length (ones_from (at + 1) count (n / 2)) ≡ count_ones (n / 2) = length-ones_from (at + 1) count (n / 2) half in
    cond_both (eqb (n % 2) 1) (at ∷ ones_from (at + 1) count (n / 2)) (ones_from (at + 1) count (n / 2))
    (λ types. length types ≡ count_ones n)
    (λ e. let one : n % 2 ≡ 1 = eqb-true (n % 2) 1 e in omega (arith, ones_step n))
    (λ ne. let other : n % 2 ≡ 1 → ⊥ = eqb-false (n % 2) 1 ne in omega (arith, ones_step n))

count_ones-number_of : (words : List ℕ) → All (λ w. w < 2 ^ 64) words → count_ones (number_of words) ≡ sum_by count_ones words
count_ones-number_of [] within = no_ones
count_ones-number_of (w ∷ ws) within =
    let turned : w + 2 ^ 64 * number_of ws ≡ number_of ws * 2 ^ 64 + w = omega arith in
    ap count_ones turned ∙ ones_cat 64 (number_of ws) w (within 0 0 (zero-lt-suc (length ws)))
    ∙ add_comm (count_ones (number_of ws)) (count_ones w)
    ∙ ap (λ n. count_ones w + n) (count_ones-number_of ws (All-tail (λ v. v < 2 ^ 64) w ws within))
    ∙ sym (sum_by-cons count_ones w ws)

-- the bits that are set are as many as the types
pub length-types_of : (words : List ℕ) → IsWords words → length (types_of words) ≡ sum_by count_ones words
length-types_of words holds =
    let bits : 64 * length words ≡ 256 = omega (arith, holds.four) in
    let below : number_of words < 2 ^ 256 = subst (λ k. number_of words < 2 ^ k) bits (number_of_below words holds.within) in
    length-ones_from 0 256 (number_of words) below ∙ count_ones-number_of words holds.within

-- there are at most 256
pub length-types_of_le : (words : List ℕ) → length (types_of words) ≤ 256
length-types_of_le words = length_rising 0 256 (types_of words) (IsRisingBelow-types_of words)
