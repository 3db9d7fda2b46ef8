use Rattle.std.proofs.Common.{sym, arith}
use Rattle.expr_steps.proofs.Passing.{ends_more, no_end, all_end}
use Rattle.expr_steps.proofs.step.may_finish.Goals as goal

pub returns-then-not-ends : goal.returns-then-not-ends
returns-then-not-ends c =
    no_end c.args.expected.now c.loop-above.above c.at-next.result.now (omega arith) c.at-next.ensures (sym c.if-not-ends.ensures) c.loop-above.invariant

pub loop-above-preserved : goal.loop-above-preserved
loop-above-preserved c =
    ends_more c.args.expected.now c.loop-above.above c.at-next.result.now (omega arith) c.at-next.ensures (sym c.if-not-ends.ensures) c.loop-above.invariant

pub returns : goal.returns
returns c = all_end c.args.expected.now c.loop-above.above (omega arith) c.loop-above.invariant
