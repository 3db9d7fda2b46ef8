use Rattle.std.proofs.Common.{ℕ, ◌≡◌, ◌<◌, ◌≤◌, false}
use Rattle.expr_eval.specs.Values.{is_true}
use Rattle.enable_bits.specs.Masks.{has}
use Rattle.block_columns.specs.Columns.{number_at}
use Rattle.block_eval.proofs.columns.true_rows.Given as goal

-- the rows so far, and no other
abbrev pub invariant-loop-i : goal.invariant-loop-i
invariant-loop-i l =
    ((k : ℕ) → k < l.i → has l.rows k ≡ is_true (number_at k l.numbers))
    × ((k : ℕ) → l.i ≤ k → has l.rows k ≡ false)
