use Rattle.std.proofs.Common.{sym, arith}
use Rattle.expr_tokens.specs.Seen.{token_seen}
use Rattle.expr_steps.proofs.Passing.{passes_by}
use Rattle.expr_steps.proofs.step.passed.Goals as goal

pub loop-above-preserved : goal.loop-above-preserved
loop-above-preserved c s limit =
    passes_by s limit (token_seen c.args.token) c.args.expected.now c.loop-above.above c.at-next.result.now (omega arith) c.at-next.ensures (sym c.if-not-is_passed.ensures) (c.loop-above.invariant s limit)
