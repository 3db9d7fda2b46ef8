-- What the machine's operations on a mask's number make of its places.
use Rattle.std.proofs.Common.{◌≡◌, ℕ, zero, suc, ◌+◌, ◌-◌, ◌*◌, ◌/◌, ◌%◌, ◌^◌, ◌≤◌, ◌<◌, min, true, false, cond, inl, inr, ◌⊎◌, ◌&&◌, not, nat_lt, ◌==◌, [], ◌∷◌, length, filter, bit_and, bit_or, Option, Some, None, unwrap_or, refl, sym, ap, subst, ◌∙◌, zero-add, arith}
use Rattle.std.specs.Int.{w128, bit_at, bit_not, trailing_zeros}
use Rattle.std.specs.Int.Count.{ones, ones_step, ones-le}
use Rattle.std.specs.List.{range_with_len}
use Rattle.std.specs.Option.{SomeIff}
use Rattle.std.proofs.Math.Pow.{pow_mono}
use Rattle.std.proofs.lemmas.Bool.{cond_both, cond-true, cond-false, cases_eq, cases_lt, lt-ltb, le-ltb, eqb-true, eqb-false, eq-eqb, ne_eqb, false≢true}
use Rattle.std.proofs.lemmas.Nat.{shr-shr, shr_le, shr_below}
use Rattle.std.proofs.lemmas.Nat.Bits.{bit_at-lt, bit_at_and, bit_at_not, bit_at_set_same, bit_at_set_other, bit_at_clear_same, bit_at_clear_other, bit_at_ones, bit_at_ones_above, bit_at_above, bit_at-trailing_zeros, bit_at-zero, ones_shr}
use Rattle.enable_bits.specs.Masks.{places_between, places_where, has, with_place}
use Rattle.enable_bits.proofs.MaskLemmas.{has-places_where, same_places}
use Rattle.enable_bits.specs.Bits.{bit_on, places_of, shr_next, half_below}

-- ---- one digit

digit_cases : (x : ℕ) → x < 2 → (x ≡ 0) ⊎ (x ≡ 1)
digit_cases x h = elim (cases_eq x 0) [ inl zero' ↦ inl zero' | inr other ↦ inr (omega arith) ]

both_digits : (x y : ℕ) → x < 2 → y < 2 → (min x y == 1) ≡ ((x == 1) && (y == 1))
both_digits x y hx hy =
    elim (digit_cases x hx) [
      | inl ex ↦ elim (digit_cases y hy) [ inl ey ↦ rw (ex, ey) refl | inr ey ↦ rw (ex, ey) refl ]
      | inr ex ↦ elim (digit_cases y hy) [ inl ey ↦ rw (ex, ey) refl | inr ey ↦ rw (ex, ey) refl ]
    ]

pub bit_on-and : (a b place : ℕ) → bit_on (bit_and a b) place ≡ (bit_on a place && bit_on b place)
bit_on-and a b place =
    ap (λ d. d == 1) (bit_at_and a b place) ∙ both_digits (bit_at a place) (bit_at b place) (bit_at-lt a place) (bit_at-lt b place)

other_digit : (x : ℕ) → x < 2 → (1 - x == 1) ≡ not (x == 1)
other_digit x h = elim (digit_cases x h) [ inl e ↦ rw e refl | inr e ↦ rw e refl ]

pub bit_on-not : (a place : ℕ) → a < 2 ^ 128 → place < 128 → bit_on (bit_not w128 a) place ≡ not (bit_on a place)
bit_on-not a place h within = ap (λ d. d == 1) (bit_at_not w128 a place h within) ∙ other_digit (bit_at a place) (bit_at-lt a place)

pub bit_on-set : (a place other : ℕ) → place < 128 → bit_on (bit_or a (1 * 2 ^ place % 2 ^ 128)) other ≡ cond (other == place) true (bit_on a other)
bit_on-set a place other within =
    elim (cases_eq other place) [
      | inl same ↦ rw same (ap (λ d. d == 1) (bit_at_set_same w128 a place within) ∙ sym (cond-true (place == place) _ _ (eq-eqb place place refl)))
      | inr apart ↦ ap (λ d. d == 1) (bit_at_set_other w128 a place within other apart) ∙ sym (cond-false (other == place) _ _ (ne_eqb other place apart))
    ]

pub bit_on-clear : (a place other : ℕ) → place < 128 → other < 128
    → bit_on (bit_and a (bit_not w128 (1 * 2 ^ place % 2 ^ 128))) other ≡ cond (other == place) false (bit_on a other)
bit_on-clear a place other within inside =
    elim (cases_eq other place) [
      | inl same ↦ rw same (ap (λ d. d == 1) (bit_at_clear_same w128 a place within) ∙ sym (cond-true (place == place) _ _ (eq-eqb place place refl)))
      | inr apart ↦ ap (λ d. d == 1) (bit_at_clear_other w128 a place within other inside apart) ∙ sym (cond-false (other == place) _ _ (ne_eqb other place apart))
    ]

-- ---- runs of digits

pub bit_on-first : (n place : ℕ) → bit_on (2 ^ n - 1) place ≡ nat_lt place n
bit_on-first n place =
    elim (cases_lt place n) [
      | inl below ↦ ap (λ d. d == 1) (bit_at_ones n place below) ∙ sym (lt-ltb place n below)
      | inr past ↦ ap (λ d. d == 1) (bit_at_ones_above n place past) ∙ sym (le-ltb place n past)
    ]

-- the digits past a place are those of the number shifted down to it
bit_at-shr : (a place i : ℕ) → bit_at (a / 2 ^ place) i ≡ bit_at a (place + i)
bit_at-shr a place i = ap (λ v. v % 2) (shr-shr a place i)

pub bit_on-none : (a place other : ℕ) → a / 2 ^ place ≡ 0 → place ≤ other → bit_on a other ≡ false
bit_on-none a place other nothing past =
    let i : ℕ = other - place in
    let e : place + i ≡ other = omega arith in
    ap (λ d. d == 1) (subst (λ o. bit_at a o ≡ 0) e (sym (bit_at-shr a place i) ∙ ap (λ v. bit_at v i) nothing ∙ bit_at-zero i))

pub bit_on-past : (a place : ℕ) → a < 2 ^ 128 → 128 ≤ place → bit_on a place ≡ false
bit_on-past a place h past = ap (λ d. d == 1) (bit_at_above a 128 place h past)

-- ---- a shift down by any number of digits

nothing_past : (a place : ℕ) → a < 2 ^ 128 → 128 ≤ place → a / 2 ^ place ≡ 0
nothing_past a place h past =
    let short : a < 2 ^ (0 + place) = rw (zero-add place) (omega (arith, pow_mono {i = 128} {j = place} past)) in
    let below : a / 2 ^ place < 1 = shr_below a 0 place short in
    omega arith

pub shifted_or_zero : (r : Option ℕ) (a place : ℕ) → a < 2 ^ 128 → SomeIff r (place < 128) (a / 2 ^ place) → unwrap_or r 0 ≡ a / 2 ^ place
shifted_or_zero (Some x) a place h gives = gives.1
shifted_or_zero None a place h refused = sym (nothing_past a place h (omega arith))

pub ones_first : (n : ℕ) → n ≤ 128 → (2 ^ 128 - 1) / 2 ^ (128 - n) ≡ 2 ^ n - 1
ones_first n h =
    let e : 128 - (128 - n) ≡ n = omega arith in
    ones_shr 128 (128 - n) (omega arith) ∙ ap (λ k. 2 ^ k - 1) e

-- ---- the lowest digit that is 1 at or past a place, where there is one

abbrev next_digit : ℕ → ℕ → ℕ
next_digit a place = place + trailing_zeros w128 (a / 2 ^ place)

module _ (a place : ℕ) (h : a < 2 ^ 128) (some : 0 < a / 2 ^ place) where
  pub next_digit_on : bit_on a (next_digit a place) ≡ true
  next_digit_on =
      let lowest = bit_at-trailing_zeros w128 (a / 2 ^ place) some (omega (arith, shr_le a place)) in
      ap (λ d. d == 1) (sym (bit_at-shr a place _) ∙ lowest.1)

  pub next_digit_within : next_digit a place < 128
  next_digit_within =
      elim (cases_lt (next_digit a place) 128) [
        | inl below ↦ below
        | inr past ↦ absurd (false≢true (sym (bit_on-past a (next_digit a place) h past) ∙ next_digit_on))
      ]

  pub next_digit_least : (other : ℕ) → place ≤ other → other < next_digit a place → bit_on a other ≡ false
  next_digit_least other past before =
      let lowest = bit_at-trailing_zeros w128 (a / 2 ^ place) some (omega (arith, shr_le a place)) in
      let i : ℕ = other - place in
      let e : place + i ≡ other = omega arith in
      ap (λ d. d == 1) (subst (λ o. bit_at a o ≡ 0) e (sym (bit_at-shr a place i) ∙ lowest.2 i (omega arith)))

-- ---- the number of digits that are 1

ones_between : (bits start n : ℕ) → bits / 2 ^ start < 2 ^ n → length (places_between start n (bit_on bits)) ≡ ones (bits / 2 ^ start)
unfolding places_between
ones_between bits start zero h = let none : ones (bits / 2 ^ start) ≤ 0 = ones-le 0 _ h in omega arith
ones_between bits start (suc n) h =
    let v = bits / 2 ^ start in
    let tail = filter (bit_on bits) (range_with_len (start + 1) n) in
    let rest : length tail ≡ ones (v / 2) =
    ones_between bits (start + 1) n (rw shr_next (half_below v n h)) ∙ ap ones (shr_next bits start) in
    cond_both (bit_on bits start) (start ∷ tail) tail (λ xs. length xs ≡ ones v)
    (λ here. let one : v % 2 ≡ 1 = eqb-true _ _ here in omega (arith, ones_step v))
    (λ lacks. let none : v % 2 ≡ 1 → ⊥ = eqb-false _ _ lacks in omega (arith, ones_step v))

pub length-places_of : (bits : ℕ) → bits < 2 ^ 128 → length (places_of bits) ≡ ones bits
unfolding places_where
length-places_of bits h = ones_between bits 0 128 (omega arith) ∙ ap ones (omega arith)

-- ---- what each operation makes of the places

pub places_of-set : (a place : ℕ) → place < 128 → places_of (bit_or a (1 * 2 ^ place % 2 ^ 128)) ≡ with_place (places_of a) place true
places_of-set a place h =
    same_places _ (λ other. cond (other == place) true (has (places_of a) other))
    (λ other within. bit_on-set a place other h ∙ ap (λ b. cond (other == place) true b) (sym (has-places_where (bit_on a) other within)))

pub places_of-clear : (a place : ℕ) → place < 128 → places_of (bit_and a (bit_not w128 (1 * 2 ^ place % 2 ^ 128))) ≡ with_place (places_of a) place false
places_of-clear a place h =
    same_places _ (λ other. cond (other == place) false (has (places_of a) other))
    (λ other within. bit_on-clear a place other h within ∙ ap (λ b. cond (other == place) false b) (sym (has-places_where (bit_on a) other within)))

pub places_of-and : (a b : ℕ) → places_of (bit_and a b) ≡ places_where (λ place. has (places_of a) place && has (places_of b) place)
places_of-and a b =
    same_places _ _ (λ place within. rw (has-places_where (bit_on a) place within, has-places_where (bit_on b) place within) (bit_on-and a b place))

pub places_of-and_not : (a b : ℕ) → b < 2 ^ 128 → places_of (bit_and a (bit_not w128 b)) ≡ places_where (λ place. has (places_of a) place && not (has (places_of b) place))
places_of-and_not a b h =
    same_places _ _ (λ place within.
    rw (has-places_where (bit_on a) place within, has-places_where (bit_on b) place within)
    (bit_on-and a (bit_not w128 b) place ∙ ap (λ d. bit_on a place && d) (bit_on-not b place h within)))

pub places_of-first : (n : ℕ) → places_of (2 ^ n - 1) ≡ places_where (λ place. nat_lt place n)
places_of-first n = same_places _ _ (λ place _. bit_on-first n place)

none_of_zero : (start n : ℕ) → places_between start n (bit_on 0) ≡ []
unfolding places_between
none_of_zero start zero = refl
none_of_zero start (suc n) =
    cond-false (bit_on 0 start) (start ∷ filter (bit_on 0) (range_with_len (start + 1) n)) _ (ap (λ d. d == 1) (bit_at-zero start)) ∙ none_of_zero (start + 1) n

pub places_of-zero : places_of 0 ≡ []
unfolding places_where
places_of-zero = none_of_zero 0 128
