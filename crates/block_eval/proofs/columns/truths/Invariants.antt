use Rattle.std.proofs.Common.{ℕ, ◌≡◌, ◌<◌}
use Rattle.expr_eval.specs.Values.{truth}
use Rattle.enable_bits.specs.Masks.{has}
use Rattle.block_columns.specs.Columns.{number_at}
use Rattle.block_eval.proofs.columns.truths.Given as goal

-- what is done
abbrev pub invariant-loop-i : goal.invariant-loop-i
invariant-loop-i l = (k : ℕ) → k < l.i → number_at k l.out ≡ truth (has l.mask k)
