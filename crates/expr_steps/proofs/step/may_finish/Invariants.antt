use Rattle.expr_steps.proofs.Passing.{Ended}
use Rattle.expr_steps.proofs.step.may_finish.Given as goal

abbrev pub invariant-loop-above : goal.invariant-loop-above
invariant-loop-above l = Ended l.expected l.above
