use Rattle.std.proofs.Common.{ℕ, ◌≡◌, ◌<◌, ◌≤◌}
use Rattle.block_columns.specs.Columns.{number_at}
use Rattle.block_eval.specs.Columns.{combined}
use Rattle.block_eval.proofs.operators.combine_number_rows.Given as goal

-- what is done, and what isn't yet
abbrev pub invariant-loop-i : goal.invariant-loop-i
invariant-loop-i l =
    ((k : ℕ) → k < l.i → number_at k l.left ≡ combined l.op (number_at k l.initial.left) l.right)
    × ((k : ℕ) → l.i ≤ k → number_at k l.left ≡ number_at k l.initial.left)
