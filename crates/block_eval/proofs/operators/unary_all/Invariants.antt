use Rattle.std.proofs.Common.{ℕ, ◌≡◌, ◌<◌, ◌≤◌}
use Rattle.expr_eval.specs.Values.{value_unary}
use Rattle.block_columns.specs.Columns.{number_at}
use Rattle.block_eval.proofs.operators.unary_all.Given as goal

-- what is done, and what isn't yet
abbrev pub invariant-loop-i : goal.invariant-loop-i
invariant-loop-i l =
    ((k : ℕ) → k < l.i → number_at k l.numbers ≡ value_unary l.op (number_at k l.initial.numbers))
    × ((k : ℕ) → l.i ≤ k → number_at k l.numbers ≡ number_at k l.initial.numbers)
