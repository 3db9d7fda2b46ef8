-- A mask that is made row by row.
use Rattle.std.proofs.Common.{ℕ, ℤ, inl, inr, ◌≡◌, ◌<◌, ◌≤◌, ◌+◌, ◌∙◌, Bool, false, sym, ap, List, arith}
use Rattle.std.proofs.lemmas.Bool.{cases_eq}
use Rattle.enable_bits.specs.Masks.{has, with_place}
use Rattle.expr_eval.specs.Values.{is_true}
use Rattle.block_columns.specs.Columns.{number_at}
use Rattle.block_columns.proofs.Rows.{bit_here, bit_other, past_switch}

pub one_more : (zs : List ℤ) (rows now : List ℕ) (i : ℕ) (b : Bool) → i < 128 → now ≡ with_place rows i b → b ≡ is_true (number_at i zs)
    → ((k : ℕ) → k < i → has rows k ≡ is_true (number_at k zs)) × ((k : ℕ) → i ≤ k → has rows k ≡ false)
    → ((k : ℕ) → k < i + 1 → has now k ≡ is_true (number_at k zs)) × ((k : ℕ) → i + 1 ≤ k → has now k ≡ false)
one_more zs rows now i b below is truth before = (
  (λ k h. ap (λ (m : List ℕ). has m k) is ∙ elim (cases_eq k i) [
    | inl same ↦ ap (λ j. has (with_place rows i b) j) same ∙ (bit_here rows i b below ∙ (truth ∙ ap (λ j. is_true (number_at j zs)) (sym same)))
    | inr other ↦ bit_other rows i k b (omega arith) other ∙ before.0 k (omega arith)
  ]),
  (λ k past. ap (λ (m : List ℕ). has m k) is ∙ past_switch rows (i + 1) i k b (omega arith) past (λ j h. before.1 j (omega arith))),
)
