-- two sets of types, word by word
use Rattle.std.proofs.Common.{◌≡◌, ℕ, ◌+◌, ◌-◌, ◌%◌, ◌^◌, ◌<◌, ◌⊎◌, inl, inr, Bool, true, not, eqb, List, [], ◌∷◌, length, min, refl, sym, ap, ap₂, ◌∙◌, arith, All, bit_and, w64, zip, zero-lt-suc}
use Rattle.std.specs.Bool.{Decides}
use Rattle.std.specs.Cmp.Lexicographic.{pointwise}
use Rattle.std.specs.Int.{bit_at, bit_not, trailing_zeros}
use Rattle.std.specs.List.{list_all, list_any}
use Rattle.std.proofs.lemmas.Bool.{and_parts, and_from, or_cases, or_left, or_right, cases_lt, cases_eq, eqb-true, eq-eqb, ne_eqb, eqb-false, false≢true, not-true, not_from_false}
use Rattle.std.proofs.lemmas.Bool.Decides.{same_from_decides, Decides-like}
use Rattle.std.proofs.lemmas.List.Elements.{All-tail}
use Rattle.std.proofs.lemmas.Nat.{and_le_l}
use Rattle.std.proofs.lemmas.Nat.Bits.{bit_at_and, bit_at_not, bit_at-lt, bit_at-zero, same_from_bits_below, bit_at-trailing_zeros}
use Rattle.std.proofs.lemmas.Slice.Eq.{bytes_eq-Decides}
use Rattle.ent_types.specs.TypeSets.{has_type, is_subset_of, meets}
use Rattle.ent_types.specs.TypeWords.{types_of, words_of, IsWords}
use Rattle.ent_types.specs.TypeWordsBack.{words_of-types_of}
use Rattle.ent_types.proofs.TypeBits.{type_bit, type_bit-low, type_bit-high, bit_from-has_type, has_type-from_bit}
use Rattle.ent_types.proofs.TypeSetRelations.{Decides-is_subset_of, Decides-meets}

-- ---- is the first set in the second?

-- each bit of the first word is in the second
abbrev pub is_covered : ℕ × ℕ → Bool
is_covered pair = eqb (bit_and pair.0 (bit_not w64 pair.1)) 0

bit_of_rest : (a b i : ℕ) → b < 2 ^ 64 → i < 64 → bit_at (bit_and a (bit_not w64 b)) i ≡ min (bit_at a i) (1 - bit_at b i)
bit_of_rest a b i below within = bit_at_and a (bit_not w64 b) i ∙ ap (min (bit_at a i)) (bit_at_not w64 b i below within)

word_covered : (a b : ℕ) → b < 2 ^ 64 → bit_and a (bit_not w64 b) ≡ 0 → (i : ℕ) → i < 64 → bit_at a i ≡ 1 → bit_at b i ≡ 1
word_covered a b below none i within one =
    let nothing : min (bit_at a i) (1 - bit_at b i) ≡ 0 = sym (bit_of_rest a b i below within) ∙ ap (λ n. bit_at n i) none ∙ bit_at-zero i in
    omega (arith, bit_at-lt b i)

word_covered_from : (a b : ℕ) → a < 2 ^ 64 → b < 2 ^ 64 → ((i : ℕ) → i < 64 → bit_at a i ≡ 1 → bit_at b i ≡ 1) → bit_and a (bit_not w64 b) ≡ 0
word_covered_from a b a_below b_below each =
    same_from_bits_below 64 (bit_and a (bit_not w64 b)) 0 (omega (arith, and_le_l a (bit_not w64 b))) (omega arith) (λ i within.
    bit_of_rest a b i b_below within ∙ none i within (cases_eq (bit_at a i) 1) ∙ sym (bit_at-zero i))
  where
    none : (i : ℕ) → i < 64 → (bit_at a i ≡ 1) ⊎ (bit_at a i ≡ 1 → ⊥) → min (bit_at a i) (1 - bit_at b i) ≡ 0
    none i within (inl one) = omega (arith, each i within one)
    none i within (inr ne) = omega (arith, bit_at-lt a i)

covered_each : (ws vs : List ℕ) → All (λ v. v < 2 ^ 64) vs → length ws ≡ length vs → list_all is_covered (zip ws vs) ≡ true
    → (t : ℕ) → type_bit ws t ≡ 1 → type_bit vs t ≡ 1
covered_each [] [] below same all t one = one
covered_each [] (v ∷ vs) below same all t one = absurd (omega arith)
covered_each (w ∷ ws) [] below same all t one = absurd (omega arith)
covered_each (w ∷ ws) (v ∷ vs) below same all t one =
    let parts : (is_covered (w, v) ≡ true) × (list_all is_covered (zip ws vs) ≡ true) =
    and_parts (is_covered (w, v)) (list_all is_covered (zip ws vs)) all in
    elim (cases_lt t 64) [
      | inl low ↦
          type_bit-low v vs t low
          ∙ word_covered w v (below 0 0 (zero-lt-suc (length vs))) (eqb-true _ 0 parts.0) t low (sym (type_bit-low w ws t low) ∙ one)
      | inr high ↦
          type_bit-high v vs t high
          ∙ covered_each ws vs (All-tail (λ n. n < 2 ^ 64) v vs below) (omega arith) parts.1 (t - 64) (sym (type_bit-high w ws t high) ∙ one)
    ]

-- the bits of the first word, and those of the rest
tail_bit : (w : ℕ) (ws : List ℕ) (t : ℕ) → type_bit (w ∷ ws) (t + 64) ≡ type_bit ws t
tail_bit w ws t = let back : t + 64 - 64 ≡ t = omega arith in type_bit-high w ws (t + 64) (omega arith) ∙ ap (type_bit ws) back

covered_from_each : (ws vs : List ℕ) → All (λ w. w < 2 ^ 64) ws → All (λ v. v < 2 ^ 64) vs → length ws ≡ length vs
    → ((t : ℕ) → type_bit ws t ≡ 1 → type_bit vs t ≡ 1) → list_all is_covered (zip ws vs) ≡ true
covered_from_each [] [] w_below v_below same each = refl
covered_from_each [] (v ∷ vs) w_below v_below same each = absurd (omega arith)
covered_from_each (w ∷ ws) [] w_below v_below same each = absurd (omega arith)
covered_from_each (w ∷ ws) (v ∷ vs) w_below v_below same each =
    and_from (is_covered (w, v)) (list_all is_covered (zip ws vs))
    (eq-eqb _ 0 (word_covered_from w v (w_below 0 0 (zero-lt-suc (length ws))) (v_below 0 0 (zero-lt-suc (length vs))) (λ i within one.
    sym (type_bit-low v vs i within) ∙ each i (type_bit-low w ws i within ∙ one))))
    (covered_from_each ws vs (All-tail (λ n. n < 2 ^ 64) w ws w_below) (All-tail (λ n. n < 2 ^ 64) v vs v_below) (omega arith) (λ t one.
    sym (tail_bit v vs t) ∙ each (t + 64) (tail_bit w ws t ∙ one)))

-- the words answer as the sets
pub is_covered-types_of : (ws vs : List ℕ) → IsWords ws → IsWords vs → list_all is_covered (zip ws vs) ≡ is_subset_of (types_of ws) (types_of vs)
is_covered-types_of ws vs w_holds v_holds =
    let same : length ws ≡ length vs = w_holds.four ∙ sym v_holds.four in
    let decides : Decides (list_all is_covered (zip ws vs)) ((t : ℕ) → has_type (types_of ws) t ≡ true → has_type (types_of vs) t ≡ true) = (
      λ all t has. has_type-from_bit vs v_holds t (covered_each ws vs v_holds.within same all t (bit_from-has_type ws w_holds t has)),
      λ each. covered_from_each ws vs w_holds.within v_holds.within same (λ t one.
          bit_from-has_type vs v_holds t (each t (has_type-from_bit ws w_holds t one))),
    ) in
    same_from_decides _ _ decides (Decides-is_subset_of (types_of ws) (types_of vs))

-- ---- do they share a type?

-- some bit is in both words
abbrev pub is_shared : ℕ × ℕ → Bool
is_shared pair = not (eqb (bit_and pair.0 pair.1) 0)

word_shared : (a b : ℕ) → a < 2 ^ 64 → (bit_and a b ≡ 0 → ⊥) → (i : ℕ) × (i < 64) × (bit_at a i ≡ 1) × (bit_at b i ≡ 1)
word_shared a b below some =
    let both : ℕ = bit_and a b in
    let found = bit_at-trailing_zeros w64 (bit_and a b) (omega arith) (omega (arith, and_le_l a b)) in
    let one : min (bit_at a (trailing_zeros w64 (bit_and a b))) (bit_at b (trailing_zeros w64 (bit_and a b))) ≡ 1 =
    sym (bit_at_and a b (trailing_zeros w64 (bit_and a b))) ∙ found.1 in (
      trailing_zeros w64 (bit_and a b),
      found.0,
      omega (arith, bit_at-lt a (trailing_zeros w64 (bit_and a b))),
      omega (arith, bit_at-lt b (trailing_zeros w64 (bit_and a b))),
    )

word_shared_from : (a b i : ℕ) → bit_at a i ≡ 1 → bit_at b i ≡ 1 → bit_and a b ≡ 0 → ⊥
word_shared_from a b i a_one b_one none =
    let one : bit_at (bit_and a b) i ≡ 1 = bit_at_and a b i ∙ ap₂ min a_one b_one in
    let zero_bit : bit_at (bit_and a b) i ≡ 0 = ap (λ n. bit_at n i) none ∙ bit_at-zero i in
    omega arith

shared_some : (ws vs : List ℕ) → All (λ w. w < 2 ^ 64) ws → list_any is_shared (zip ws vs) ≡ true
    → (t : ℕ) × (type_bit ws t ≡ 1) × (type_bit vs t ≡ 1)
shared_some [] vs below any = absurd (false≢true any)
shared_some (w ∷ ws) [] below any = absurd (false≢true any)
shared_some (w ∷ ws) (v ∷ vs) below any =
    elim (or_cases (is_shared (w, v)) (list_any is_shared (zip ws vs)) any) [
      | inl here ↦
          let found = word_shared w v (below 0 0 (zero-lt-suc (length ws))) (eqb-false _ 0 (not-true _ here)) in
          (found.0, type_bit-low w ws found.0 found.1 ∙ found.2, type_bit-low v vs found.0 found.1 ∙ found.3)
      | inr rest ↦
          let found = shared_some ws vs (All-tail (λ n. n < 2 ^ 64) w ws below) rest in
          (found.0 + 64, tail_bit w ws found.0 ∙ found.1, tail_bit v vs found.0 ∙ found.2)
    ]

shared_from_some : (ws vs : List ℕ) → length ws ≡ length vs → (t : ℕ) → type_bit ws t ≡ 1 → type_bit vs t ≡ 1 → list_any is_shared (zip ws vs) ≡ true
shared_from_some [] [] same t w_one v_one =
    let none : type_bit [] t ≡ 0 = bit_at-zero (t % 64) in
    absurd (omega arith)
shared_from_some [] (v ∷ vs) same t w_one v_one = absurd (omega arith)
shared_from_some (w ∷ ws) [] same t w_one v_one = absurd (omega arith)
shared_from_some (w ∷ ws) (v ∷ vs) same t w_one v_one =
    elim (cases_lt t 64) [
      | inl low ↦
          or_left (is_shared (w, v)) (list_any is_shared (zip ws vs))
          (not_from_false _ (ne_eqb _ 0 (word_shared_from w v t (sym (type_bit-low w ws t low) ∙ w_one) (sym (type_bit-low v vs t low) ∙ v_one))))
      | inr high ↦
          or_right (is_shared (w, v)) (list_any is_shared (zip ws vs))
          (shared_from_some ws vs (omega arith) (t - 64) (sym (type_bit-high w ws t high) ∙ w_one) (sym (type_bit-high v vs t high) ∙ v_one))
    ]

pub is_shared-types_of : (ws vs : List ℕ) → IsWords ws → IsWords vs → list_any is_shared (zip ws vs) ≡ meets (types_of ws) (types_of vs)
is_shared-types_of ws vs w_holds v_holds =
    let same : length ws ≡ length vs = w_holds.four ∙ sym v_holds.four in
    let decides : Decides (list_any is_shared (zip ws vs)) ((t : ℕ) × (has_type (types_of ws) t ≡ true) × (has_type (types_of vs) t ≡ true)) = (
      λ any.
          let found = shared_some ws vs w_holds.within any in
          (found.0, has_type-from_bit ws w_holds found.0 found.1, has_type-from_bit vs v_holds found.0 found.2),
      λ found. shared_from_some ws vs same found.0 (bit_from-has_type ws w_holds found.0 found.1) (bit_from-has_type vs v_holds found.0 found.2),
    ) in
    same_from_decides _ _ decides (Decides-meets (types_of ws) (types_of vs))

-- ---- are they equal?

pub same_words : (ws vs : List ℕ) → IsWords ws → IsWords vs → pointwise eqb ws vs ≡ pointwise eqb (types_of ws) (types_of vs)
same_words ws vs w_holds v_holds =
    same_from_decides _ _ (bytes_eq-Decides ws vs) (Decides-like (pointwise eqb (types_of ws) (types_of vs))
    (λ e. sym (words_of-types_of ws w_holds) ∙ ap words_of e ∙ words_of-types_of vs v_holds)
    (λ e. ap types_of e)
    (bytes_eq-Decides (types_of ws) (types_of vs)))
