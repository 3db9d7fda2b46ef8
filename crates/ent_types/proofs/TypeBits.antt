-- the types that words hold, bit by bit
use Rattle.std.proofs.Common.{◌≡◌, ℕ, zero, suc, ◌+◌, ◌-◌, ◌*◌, ◌/◌, ◌%◌, ◌^◌, ◌<◌, ◌≤◌, ◌⊎◌, inl, inr, true, false, not, ◌&&◌, ◌||◌, eqb, List, [], ◌∷◌, length, get_or, set, sym, ap, ap₂, ◌∙◌, subst, arith, All, zero-lt-suc, bit_and, bit_or, w64}
use Rattle.std.proofs.lemmas.Bool.{cond_both, cases_eq, cases_lt, ne_eqb, eq-eqb, eqb-true}
use Rattle.std.proofs.lemmas.List.{get_or-set_same, get_or-set_other, get_or_past, length-set}
use Rattle.std.proofs.lemmas.List.Elements.{All-tail, All-set}
use Rattle.std.specs.Int.{bit_at, bit_not}
use Rattle.std.proofs.lemmas.Nat.{or_lt, and_le_l}
use Rattle.std.proofs.lemmas.Nat.Bits.{bit_at_lowest, bit_at-suc, bit_at-zero, bit_at_cat_low, bit_at_cat_high, bit_at_set_same, bit_at_set_other, bit_at_clear_same, bit_at_clear_other}
use Rattle.ent_types.specs.TypeSets.{IsRisingFrom, IsRisingBelow, has_type, with_type, without_type}
use Rattle.ent_types.specs.TypeWords.{ones_from, number_of, types_of, IsWords}
use Rattle.ent_types.proofs.TypeSetLemmas.{IsRisingFrom-lower, IsRisingFrom-with_type, IsRisingFrom-without_type, has_type_below, has_type_above, has_type-with_type, has_type-without_type, same_types}

-- ---- the types that words hold

-- the ones of a number rise
pub IsRisingFrom-ones_from : (at count n : ℕ) → IsRisingFrom at (at + count) (ones_from at count n)
unfolding ones_from
IsRisingFrom-ones_from at zero n = tt
IsRisingFrom-ones_from at (suc count) n =
    let next : at + 1 + count ≡ at + suc count = omega arith in
    let rest : IsRisingFrom (at + 1) (at + suc count) (ones_from (at + 1) count (n / 2)) =
    subst (λ high. IsRisingFrom (at + 1) high (ones_from (at + 1) count (n / 2))) next (IsRisingFrom-ones_from (at + 1) count (n / 2)) in
    cond_both (eqb (n % 2) 1) (at ∷ ones_from (at + 1) count (n / 2)) (ones_from (at + 1) count (n / 2)) (IsRisingFrom at (at + suc count))
    (λ _. (omega arith, omega arith, rest))
    (λ _. IsRisingFrom-lower (at + 1) at (at + suc count) (ones_from (at + 1) count (n / 2)) (omega arith) rest)

-- the types that words hold are a set
pub IsRisingBelow-types_of : (words : List ℕ) → IsRisingBelow 256 (types_of words)
IsRisingBelow-types_of words = IsRisingFrom-ones_from 0 256 (number_of words)

-- the bit at a place of a number
pub has_type-ones_from : (at count n i : ℕ) → i < count → has_type (ones_from at count n) (at + i) ≡ eqb (bit_at n i) 1
unfolding ones_from
has_type-ones_from at zero n i within = absurd (omega arith)
has_type-ones_from at (suc count) n zero within =
    let here : at + 0 ≡ at = omega arith in
    cond_both (eqb (n % 2) 1) (at ∷ ones_from (at + 1) count (n / 2)) (ones_from (at + 1) count (n / 2))
    (λ types. has_type types (at + 0) ≡ eqb (bit_at n 0) 1)
    (λ e. ap (λ b. b || has_type (ones_from (at + 1) count (n / 2)) (at + 0)) (eq-eqb at (at + 0) (sym here))
    ∙ sym (ap (λ b. eqb b 1) (bit_at_lowest n) ∙ e))
    (λ ne. has_type_below (at + 1) (at + 1 + count) (ones_from (at + 1) count (n / 2)) (at + 0) (IsRisingFrom-ones_from (at + 1) count (n / 2)) (omega arith)
    ∙ sym (ap (λ b. eqb b 1) (bit_at_lowest n) ∙ ne))
has_type-ones_from at (suc count) n (suc i) within =
    let there : at + suc i ≡ at + 1 + i = omega arith in
    let rest : has_type (ones_from (at + 1) count (n / 2)) (at + suc i) ≡ eqb (bit_at n (suc i)) 1 =
    ap (has_type (ones_from (at + 1) count (n / 2))) there
    ∙ has_type-ones_from (at + 1) count (n / 2) i (omega arith)
    ∙ ap (λ b. eqb b 1) (sym (bit_at-suc n i)) in
    cond_both (eqb (n % 2) 1) (at ∷ ones_from (at + 1) count (n / 2)) (ones_from (at + 1) count (n / 2))
    (λ types. has_type types (at + suc i) ≡ eqb (bit_at n (suc i)) 1)
    (λ _. ap (λ b. b || has_type (ones_from (at + 1) count (n / 2)) (at + suc i)) (ne_eqb at (at + suc i) (λ e. omega arith)) ∙ rest)
    (λ _. rest)

-- the bit of a type
abbrev pub type_bit : List ℕ → ℕ → ℕ
type_bit words t = bit_at (get_or words (t / 64) 0) (t % 64)

pub type_bit-low : (w : ℕ) (ws : List ℕ) (t : ℕ) → t < 64 → type_bit (w ∷ ws) t ≡ bit_at w t
type_bit-low w ws t low =
    let word : t / 64 ≡ 0 = omega arith in
    let place : t % 64 ≡ t = omega arith in
    ap₂ (λ k i. bit_at (get_or (w ∷ ws) k 0) i) word place

pub type_bit-high : (w : ℕ) (ws : List ℕ) (t : ℕ) → 64 ≤ t → type_bit (w ∷ ws) t ≡ type_bit ws (t - 64)
type_bit-high w ws t high =
    let word : t / 64 ≡ suc ((t - 64) / 64) = omega arith in
    let place : t % 64 ≡ (t - 64) % 64 = omega arith in
    ap₂ (λ k i. bit_at (get_or (w ∷ ws) k 0) i) word place

-- the bits of the number are those of its words
pub bit_at-number_of : (words : List ℕ) → All (λ w. w < 2 ^ 64) words → (i : ℕ) → bit_at (number_of words) i ≡ type_bit words i
bit_at-number_of [] within i = bit_at-zero i ∙ sym (bit_at-zero (i % 64))
bit_at-number_of (w ∷ ws) within i =
    let here : w < 2 ^ 64 = within 0 0 (zero-lt-suc (length ws)) in
    let turned : w + 2 ^ 64 * number_of ws ≡ number_of ws * 2 ^ 64 + w = omega arith in
    ap (λ n. bit_at n i) turned ∙ elim (cases_lt i 64) [
      | inl low ↦ bit_at_cat_low (number_of ws) 64 w i low ∙ sym (type_bit-low w ws i low)
      | inr high ↦
          bit_at_cat_high (number_of ws) 64 w i here high
          ∙ bit_at-number_of ws (All-tail (λ v. v < 2 ^ 64) w ws within) (i - 64)
          ∙ sym (type_bit-high w ws i high)
    ]

bit_of_type : (words : List ℕ) → IsWords words → (t : ℕ) → t < 256 → has_type (types_of words) t ≡ eqb (type_bit words t) 1
bit_of_type words holds t within =
    let here : 0 + t ≡ t = omega arith in
    ap (has_type (types_of words)) (sym here)
    ∙ has_type-ones_from 0 256 (number_of words) t within
    ∙ ap (λ b. eqb b 1) (bit_at-number_of words holds.within t)

-- past the words there is no bit
pub type_bit-past : (words : List ℕ) → IsWords words → (t : ℕ) → 256 ≤ t → type_bit words t ≡ 0
type_bit-past words holds t above =
    ap (λ w. bit_at w (t % 64)) (get_or_past words (t / 64) 0 (omega (arith, holds.four))) ∙ bit_at-zero (t % 64)

-- a type is there exactly where its bit is 1
pub has_type-types_of : (words : List ℕ) → IsWords words → (t : ℕ) → has_type (types_of words) t ≡ eqb (type_bit words t) 1
has_type-types_of words holds t =
    elim (cases_lt t 256) [
      | inl within ↦ bit_of_type words holds t within
      | inr above ↦
          has_type_above 0 256 (types_of words) t (IsRisingBelow-types_of words) above
          ∙ sym (ap (λ b. eqb b 1) (type_bit-past words holds t above))
    ]

pub has_type-from_bit : (words : List ℕ) → IsWords words → (t : ℕ) → type_bit words t ≡ 1 → has_type (types_of words) t ≡ true
has_type-from_bit words holds t e = has_type-types_of words holds t ∙ eq-eqb (type_bit words t) 1 e

pub bit_from-has_type : (words : List ℕ) → IsWords words → (t : ℕ) → has_type (types_of words) t ≡ true → type_bit words t ≡ 1
bit_from-has_type words holds t has = eqb-true (type_bit words t) 1 (sym (has_type-types_of words holds t) ∙ has)

pub has_type-from_no_bit : (words : List ℕ) → IsWords words → (t : ℕ) → type_bit words t ≡ 0 → has_type (types_of words) t ≡ false
has_type-from_no_bit words holds t e = has_type-types_of words holds t ∙ ap (λ b. eqb b 1) e

-- ---- one word changed

-- a word is below 2 ^ 64
pub word_below : (words : List ℕ) → IsWords words → (k : ℕ) → k < 4 → get_or words k 0 < 2 ^ 64
word_below words holds k within = holds.within k 0 (subst (λ n. k < n) (sym holds.four) within)

pub IsWords-set : (words : List ℕ) → IsWords words → (k v : ℕ) → v < 2 ^ 64 → IsWords (set words k v)
IsWords-set words holds k v within = record {
  four = length-set words k v ∙ holds.four;
  within = All-set (λ w. w < 2 ^ 64) words k v within holds.within;
}

type_bit-set_same : (words : List ℕ) → IsWords words → (k v t : ℕ) → k < 4 → t / 64 ≡ k → type_bit (set words k v) t ≡ bit_at v (t % 64)
type_bit-set_same words holds k v t within e =
    ap (λ j. bit_at (get_or (set words k v) j 0) (t % 64)) e
    ∙ ap (λ w. bit_at w (t % 64)) (get_or-set_same words k v 0 (subst (λ n. k < n) (sym holds.four) within))

type_bit-set_other : (words : List ℕ) (k v t : ℕ) → (t / 64 ≡ k → ⊥) → type_bit (set words k v) t ≡ type_bit words t
type_bit-set_other words k v t ne = ap (λ w. bit_at w (t % 64)) (get_or-set_other words k (t / 64) v 0 ne)

-- two numbers of one word are one where their places in it are
same_place : (t ty : ℕ) → t / 64 ≡ ty / 64 → t % 64 ≡ ty % 64 → ty ≡ t
same_place t ty word place = omega arith

-- the word with the type's bit set
abbrev pub word_with : ℕ → ℕ → ℕ
word_with word place = bit_or word (1 * 2 ^ place % 2 ^ 64)

pub word_with_below : (word place : ℕ) → word < 2 ^ 64 → word_with word place < 2 ^ 64
word_with_below word place within = or_lt 64 word (1 * 2 ^ place % 2 ^ 64) within (omega arith)

pub types_of-with : (words : List ℕ) (ty : ℕ) → IsWords words → ty < 256
    → types_of (set words (ty / 64) (word_with (get_or words (ty / 64) 0) (ty % 64))) ≡ with_type (types_of words) ty
types_of-with words ty holds within =
    let changed : List ℕ = set words (ty / 64) (word_with (get_or words (ty / 64) 0) (ty % 64)) in
    let k_below : ty / 64 < 4 = omega arith in
    let place_below : ty % 64 < 64 = omega arith in
    let still : IsWords changed =
    IsWords-set words holds (ty / 64) _ (word_with_below (get_or words (ty / 64) 0) (ty % 64) (word_below words holds (ty / 64) k_below)) in
    same_types 0 256 (types_of changed) (with_type (types_of words) ty)
    (IsRisingBelow-types_of changed)
    (IsRisingFrom-with_type 0 256 (types_of words) ty (IsRisingBelow-types_of words) (omega arith) within)
    (λ t t_within.
    has_type-types_of changed still t ∙ bits t k_below place_below (cases_eq (t / 64) (ty / 64)) (cases_eq (t % 64) (ty % 64))
    ∙ ap (λ b. eqb ty t || b) (sym (has_type-types_of words holds t)) ∙ sym (has_type-with_type (types_of words) ty t))
  where
    bits : (t : ℕ) → ty / 64 < 4 → ty % 64 < 64 → (t / 64 ≡ ty / 64) ⊎ (t / 64 ≡ ty / 64 → ⊥) → (t % 64 ≡ ty % 64) ⊎ (t % 64 ≡ ty % 64 → ⊥)
        → eqb (type_bit (set words (ty / 64) (word_with (get_or words (ty / 64) 0) (ty % 64))) t) 1 ≡ (eqb ty t || eqb (type_bit words t) 1)
    bits t k_below place_below (inl word) (inl place) =
        ap (λ b. eqb b 1)
        (type_bit-set_same words holds (ty / 64) _ t k_below word
        ∙ ap (bit_at (word_with (get_or words (ty / 64) 0) (ty % 64))) place
        ∙ bit_at_set_same w64 (get_or words (ty / 64) 0) (ty % 64) place_below)
        ∙ sym (ap (λ b. b || eqb (type_bit words t) 1) (eq-eqb ty t (same_place t ty word place)))
    bits t k_below place_below (inl word) (inr other) =
        ap (λ b. eqb b 1)
        (type_bit-set_same words holds (ty / 64) _ t k_below word
        ∙ bit_at_set_other w64 (get_or words (ty / 64) 0) (ty % 64) place_below (t % 64) other
        ∙ ap (λ k. bit_at (get_or words k 0) (t % 64)) (sym word))
        ∙ sym (ap (λ b. b || eqb (type_bit words t) 1) (ne_eqb ty t (λ e. other (ap (λ n. n % 64) (sym e)))))
    bits t k_below place_below (inr other) _ =
        ap (λ b. eqb b 1) (type_bit-set_other words (ty / 64) _ t other)
        ∙ sym (ap (λ b. b || eqb (type_bit words t) 1) (ne_eqb ty t (λ e. other (ap (λ n. n / 64) (sym e)))))

-- the word without the type's bit
abbrev pub word_without : ℕ → ℕ → ℕ
word_without word place = bit_and word (bit_not w64 (1 * 2 ^ place % 2 ^ 64))

pub word_without_below : (word place : ℕ) → word < 2 ^ 64 → word_without word place < 2 ^ 64
word_without_below word place within = omega (arith, and_le_l word (bit_not w64 (1 * 2 ^ place % 2 ^ 64)))

pub types_of-without : (words : List ℕ) (ty : ℕ) → IsWords words → ty < 256
    → types_of (set words (ty / 64) (word_without (get_or words (ty / 64) 0) (ty % 64))) ≡ without_type (types_of words) ty
types_of-without words ty holds within =
    let changed : List ℕ = set words (ty / 64) (word_without (get_or words (ty / 64) 0) (ty % 64)) in
    let k_below : ty / 64 < 4 = omega arith in
    let place_below : ty % 64 < 64 = omega arith in
    let still : IsWords changed =
    IsWords-set words holds (ty / 64) _ (word_without_below (get_or words (ty / 64) 0) (ty % 64) (word_below words holds (ty / 64) k_below)) in
    same_types 0 256 (types_of changed) (without_type (types_of words) ty)
    (IsRisingBelow-types_of changed)
    (IsRisingFrom-without_type 0 256 (types_of words) ty (IsRisingBelow-types_of words))
    (λ t t_within.
    has_type-types_of changed still t ∙ bits t k_below place_below (cases_eq (t / 64) (ty / 64)) (cases_eq (t % 64) (ty % 64))
    ∙ ap (λ b. not (eqb t ty) && b) (sym (has_type-types_of words holds t)) ∙ sym (has_type-without_type (types_of words) ty t))
  where
    bits : (t : ℕ) → ty / 64 < 4 → ty % 64 < 64 → (t / 64 ≡ ty / 64) ⊎ (t / 64 ≡ ty / 64 → ⊥) → (t % 64 ≡ ty % 64) ⊎ (t % 64 ≡ ty % 64 → ⊥)
        → eqb (type_bit (set words (ty / 64) (word_without (get_or words (ty / 64) 0) (ty % 64))) t) 1 ≡ (not (eqb t ty) && eqb (type_bit words t) 1)
    bits t k_below place_below (inl word) (inl place) =
        ap (λ b. eqb b 1)
        (type_bit-set_same words holds (ty / 64) _ t k_below word
        ∙ ap (bit_at (word_without (get_or words (ty / 64) 0) (ty % 64))) place
        ∙ bit_at_clear_same w64 (get_or words (ty / 64) 0) (ty % 64) place_below)
        ∙ sym (ap (λ b. not b && eqb (type_bit words t) 1) (eq-eqb t ty (sym (same_place t ty word place))))
    bits t k_below place_below (inl word) (inr other) =
        ap (λ b. eqb b 1)
        (type_bit-set_same words holds (ty / 64) _ t k_below word
        ∙ bit_at_clear_other w64 (get_or words (ty / 64) 0) (ty % 64) place_below (t % 64) (omega arith) other
        ∙ ap (λ k. bit_at (get_or words k 0) (t % 64)) (sym word))
        ∙ sym (ap (λ b. not b && eqb (type_bit words t) 1) (ne_eqb t ty (λ e. other (ap (λ n. n % 64) e))))
    bits t k_below place_below (inr other) _ =
        ap (λ b. eqb b 1) (type_bit-set_other words (ty / 64) _ t other)
        ∙ sym (ap (λ b. not b && eqb (type_bit words t) 1) (ne_eqb t ty (λ e. other (ap (λ n. n / 64) e))))
