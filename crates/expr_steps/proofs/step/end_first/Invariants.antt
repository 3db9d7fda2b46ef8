use Rattle.std.proofs.Common.{◌≡◌, drop}
use Rattle.expr_steps.specs.Expecting.{reduced_first}
use Rattle.expr_steps.proofs.step.end_first.Given as goal

abbrev pub invariant-loop-left : goal.invariant-loop-left
invariant-loop-left l = record {
  expected : drop l.left l.expected ≡ drop l.count l.fn.expected;
  operands : reduced_first l.left l.expected l.operands ≡ reduced_first l.count l.fn.expected l.fn.operands;
}

abbrev pub decreases-loop-left : goal.decreases-loop-left
decreases-loop-left l = l.left
