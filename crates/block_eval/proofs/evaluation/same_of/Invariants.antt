use Rattle.std.proofs.Common.{ℕ, ◌≡◌, ◌<◌}
use Rattle.expr_eval.specs.Values.{truth}
use Rattle.world_model.specs.Part.{same_entity}
use Rattle.block_columns.specs.Columns.{number_at, reference_at}
use Rattle.block_eval.proofs.evaluation.same_of.Given as goal

-- what is done
abbrev pub invariant-loop-i : goal.invariant-loop-i
invariant-loop-i l = (k : ℕ) → k < l.i → number_at k l.out ≡ truth (same_entity (reference_at k l.left) (reference_at k l.right))
