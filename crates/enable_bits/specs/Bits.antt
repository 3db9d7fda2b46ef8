-- A mask as a number: the mask has the places of the binary digits that are 1.
use Rattle.std.specs.Prelude.{◌≡◌, ℕ, ◌+◌, ◌*◌, ◌/◌, ◌^◌, ◌<◌, Bool, List, ◌∷◌, sum_by, filter, ◌==◌, refl}
use Rattle.std.specs.Int.{bit_at}
use Rattle.std.specs.List.{range_with_len}
use Rattle.std.proofs.Common.{zero, suc, arith, sym, ◌∙◌, ap}
use Rattle.std.proofs.lemmas.Bool.{cond_both, eqb-true, eqb-false}
use Rattle.std.proofs.lemmas.List.Sums.{sum_by-cons}
use Rattle.std.proofs.lemmas.Grind.{pow_more}
use Rattle.std.proofs.lemmas.Nat.{shr-shr}
use Rattle.enable_bits.specs.Masks.{places_between, places_where}

-- the digit at this place is 1
abbrev pub bit_on : ℕ → ℕ → Bool
bit_on bits place = bit_at bits place == 1

-- the mask with the places of the digits that are 1
abbrev pub places_of : ℕ → List ℕ
places_of bits = places_where (bit_on bits)

-- the number with a 1 at each of these places
abbrev pub bits_of : List ℕ → ℕ
bits_of places = sum_by (λ place. 2 ^ place) places

-- the digits past one place are those past half the number
pub shr_next : (bits start : ℕ) → bits / 2 ^ (start + 1) ≡ bits / 2 ^ start / 2
shr_next bits start = sym (shr-shr bits start 1)

pub half_below : (v n : ℕ) → v < 2 ^ suc n → v / 2 < 2 ^ n
half_below v n h = omega (arith, pow_more 2 n)

none_left : (v p : ℕ) → v < 1 → 0 ≡ v * p
none_left v p h = let e : v ≡ 0 = omega arith in rw e (omega arith)

halved : (v p u q : ℕ) → u ≡ v / 2 → q ≡ p * 2 → u * q ≡ v / 2 * (p * 2)
halved v p u q same double = rw (same, double) refl

odd_digits : (v p q : ℕ) → v ≡ 2 * q + 1 → p + q * (p * 2) ≡ v * p
odd_digits v p q h = rw h (omega arith)

even_digits : (v p q : ℕ) → v ≡ 2 * q → q * (p * 2) ≡ v * p
even_digits v p q h = rw h (omega arith)

bits_between : (bits start n : ℕ) → bits / 2 ^ start < 2 ^ n → bits_of (places_between start n (bit_on bits)) ≡ bits / 2 ^ start * 2 ^ start
unfolding places_between
bits_between bits start zero h = none_left (bits / 2 ^ start) (2 ^ start) h
bits_between bits start (suc n) h =
    let v = bits / 2 ^ start in
    let p = 2 ^ start in
    let tail = filter (bit_on bits) (range_with_len (start + 1) n) in
    let rest : bits_of (places_between (start + 1) n (bit_on bits)) ≡ v / 2 * (p * 2) =
    bits_between bits (start + 1) n (rw shr_next (half_below v n h)) ∙ halved v p _ _ (shr_next bits start) (pow_more 2 start) in
    cond_both (bit_on bits start) (start ∷ tail) tail (λ xs. bits_of xs ≡ v * p)
    (λ yes.
    let odd : v ≡ 2 * (v / 2) + 1 = omega (arith, eqb-true _ _ yes) in
    sum_by-cons (λ place. 2 ^ place) start tail ∙ ap (λ x. p + x) rest ∙ odd_digits v p (v / 2) odd)
    (λ no'.
    let even : v ≡ 2 * (v / 2) = omega (arith, eqb-false _ _ no') in
    rest ∙ even_digits v p (v / 2) even)

pub bits_of-places_of : (bits : ℕ) → bits < 2 ^ 128 → bits_of (places_of bits) ≡ bits
unfolding places_where
bits_of-places_of bits h = bits_between bits 0 128 (omega arith) ∙ (omega arith)
