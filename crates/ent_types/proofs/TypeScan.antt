-- the first type from a number on
use Rattle.std.proofs.Common.{◌≡◌, ℕ, Some, None, List, get_or, ap₂, ◌+◌, ◌-◌, ◌*◌, ◌/◌, ◌%◌, ◌^◌, ◌<◌, ◌≤◌, ◌⊎◌, inl, inr, min, sym, ap, ◌∙◌, arith, bit_and, w64}
use Rattle.std.proofs.lemmas.Bool.{cases_lt}
use Rattle.std.proofs.lemmas.Nat.{and_le_l}
use Rattle.std.proofs.lemmas.Nat.Bits.{bit_at_and, bit_at-lt, bit_at-zero, bit_at_mask_inside, bit_at_mask_below, bit_at-trailing_zeros, ones_shl}
use Rattle.std.specs.Int.{bit_at, trailing_zeros}
use Rattle.ent_types.specs.TypeSets.{next_type}
use Rattle.ent_types.specs.TypeWords.{HasNoBit, IsFirstBit, types_of, IsWords}
use Rattle.ent_types.proofs.TypeBits.{type_bit, type_bit-past, has_type-from_bit, has_type-from_no_bit, IsRisingBelow-types_of}
use Rattle.ent_types.proofs.TypeWalk.{next_type-none, next_type-some}

-- ---- one word

-- what is left of the word from the place on
abbrev pub left_from : ℕ → ℕ → ℕ
left_from word from = bit_and word ((2 ^ 64 - 1) * 2 ^ from % 2 ^ 64)

mask : (word from : ℕ) → from < 64 → left_from word from ≡ bit_and word (2 ^ 64 - 2 ^ from)
mask word from within = ap (bit_and word) (ones_shl 64 from (omega arith))

left_above : (word from i : ℕ) → from < 64 → from ≤ i → i < 64 → bit_at (left_from word from) i ≡ bit_at word i
left_above word from i within above below =
    ap (λ n. bit_at n i) (mask word from within) ∙ bit_at_and word (2 ^ 64 - 2 ^ from) i
    ∙ ap (min (bit_at word i)) (bit_at_mask_inside from 64 i above below)
    ∙ omega (arith, bit_at-lt word i)

left_below : (word from i : ℕ) → from < 64 → i < from → bit_at (left_from word from) i ≡ 0
left_below word from i within below =
    ap (λ n. bit_at n i) (mask word from within) ∙ bit_at_and word (2 ^ 64 - 2 ^ from) i
    ∙ ap (min (bit_at word i)) (bit_at_mask_below from 64 i below)
    ∙ omega arith

pub no_bit_left : (word from : ℕ) → from < 64 → left_from word from ≡ 0 → HasNoBit word from 64
no_bit_left word from within none = λ i above below.
    sym (left_above word from i within above below) ∙ ap (λ n. bit_at n i) none ∙ bit_at-zero i

pub first_bit_left : (word from : ℕ) → from < 64 → word < 2 ^ 64 → (left_from word from ≡ 0 → ⊥)
    → IsFirstBit word from (trailing_zeros w64 (left_from word from))
first_bit_left word from within below some =
    let left : ℕ = left_from word from in
    let found = bit_at-trailing_zeros w64 (left_from word from) (omega arith) (omega (arith, and_le_l word ((2 ^ 64 - 1) * 2 ^ from % 2 ^ 64))) in
    let place : ℕ = trailing_zeros w64 (left_from word from) in
    let above : from ≤ trailing_zeros w64 (left_from word from) =
    from_above (trailing_zeros w64 (left_from word from)) found.1 (cases_lt (trailing_zeros w64 (left_from word from)) from) in
    record {
      above = above;
      within = found.0;
      is_set = sym (left_above word from (trailing_zeros w64 (left_from word from)) within above found.0) ∙ found.1;
      first = λ i i_above i_below. sym (left_above word from i within i_above (omega (arith, found.0))) ∙ found.2 i i_below;
    }
  where
    from_above : (place : ℕ) → bit_at (left_from word from) place ≡ 1 → (place < from) ⊎ (from ≤ place) → from ≤ place
    from_above place one (inl lt) = let none : bit_at (left_from word from) place ≡ 0 = left_below word from place within lt in absurd (omega arith)
    from_above place one (inr le) = le

-- ---- word after word

-- no type from `from` on is before the bit `lowest` of the word at `place`
pub record Scanned (words : List ℕ) (from place lowest : ℕ) : Type 0 where
  pub within : lowest < 64
  pub reached : from ≤ 64 * place + lowest
  pub none : (t : ℕ) → from ≤ t → t < 64 * place + lowest → type_bit words t ≡ 0

pub Scanned-start : (words : List ℕ) (from : ℕ) → Scanned words from (from / 64) (from % 64)
Scanned-start words from = record {
  within = omega arith;
  reached = omega arith;
  none = λ t above below. absurd (omega arith);
}

-- the bit of a type of the word at `place`
bit_here : (words : List ℕ) (place i : ℕ) → i < 64 → type_bit words (64 * place + i) ≡ bit_at (get_or words place 0) i
bit_here words place i within =
    let word : (64 * place + i) / 64 ≡ place = omega arith in
    let at : (64 * place + i) % 64 ≡ i = omega arith in
    ap₂ (λ k j. bit_at (get_or words k 0) j) word at

-- a type from the word at `place`
in_word : (words : List ℕ) (place t : ℕ) → 64 * place ≤ t → t < 64 * place + 64 → type_bit words t ≡ bit_at (get_or words place 0) (t - 64 * place)
in_word words place t above below =
    let split : 64 * place + (t - 64 * place) ≡ t = omega arith in
    ap (type_bit words) (sym split) ∙ bit_here words place (t - 64 * place) (omega arith)

pub Scanned-more : (words : List ℕ) (from place lowest : ℕ) → Scanned words from place lowest → HasNoBit (get_or words place 0) lowest 64
    → Scanned words from (place + 1) 0
Scanned-more words from place lowest scanned empty = record {
  within = omega arith;
  reached = omega (arith, scanned.within, scanned.reached);
  none = λ t above below. earlier t above below (cases_lt t (64 * place + lowest));
}
  where
    earlier : (t : ℕ) → from ≤ t → t < 64 * (place + 1) + 0 → (t < 64 * place + lowest) ⊎ (64 * place + lowest ≤ t) → type_bit words t ≡ 0
    earlier t above below (inl lt) = scanned.none t above lt
    earlier t above below (inr le) =
        in_word words place t (omega arith) (omega arith) ∙ empty (t - 64 * place) (omega arith) (omega arith)

-- the first type is found
pub Scanned-some : (words : List ℕ) (from place lowest bit : ℕ) → IsWords words → Scanned words from place lowest
    → IsFirstBit (get_or words place 0) lowest bit → next_type (types_of words) from ≡ Some (64 * place + bit)
Scanned-some words from place lowest bit holds scanned found =
    next_type-some 0 256 (types_of words) from (64 * place + bit) (IsRisingBelow-types_of words)
    (omega (arith, scanned.reached, found.above))
    (has_type-from_bit words holds (64 * place + bit) (bit_here words place bit found.within ∙ found.is_set))
    (λ t above below. has_type-from_no_bit words holds t (earlier t above below (cases_lt t (64 * place + lowest))))
  where
    earlier : (t : ℕ) → from ≤ t → t < 64 * place + bit → (t < 64 * place + lowest) ⊎ (64 * place + lowest ≤ t) → type_bit words t ≡ 0
    earlier t above below (inl lt) = scanned.none t above lt
    earlier t above below (inr le) =
        in_word words place t (omega arith) (omega (arith, found.within)) ∙ found.first (t - 64 * place) (omega arith) (omega arith)

-- no type is left
pub Scanned-none : (words : List ℕ) (from place lowest : ℕ) → IsWords words → Scanned words from place lowest → 4 ≤ place
    → next_type (types_of words) from ≡ None
Scanned-none words from place lowest holds scanned end =
    next_type-none (types_of words) from (λ t above. has_type-from_no_bit words holds t (nothing t above (cases_lt t (64 * place + lowest))))
  where
    nothing : (t : ℕ) → from ≤ t → (t < 64 * place + lowest) ⊎ (64 * place + lowest ≤ t) → type_bit words t ≡ 0
    nothing t above (inl lt) = scanned.none t above lt
    nothing t above (inr le) = type_bit-past words holds t (omega arith)
