use Rattle.std.proofs.Common.{ℕ, ◌≡◌, ◌<◌}
use Rattle.block_columns.specs.Columns.{number_at}
use Rattle.block_eval.proofs.columns.fill.Given as goal

-- what is done
abbrev pub invariant-loop-i : goal.invariant-loop-i
invariant-loop-i l = (k : ℕ) → k < l.i → number_at k l.out ≡ l.number
