use Rattle.std.proofs.Common.{sym, arith}
use Rattle.expr_tokens.specs.Seen.{token_seen}
use Rattle.expr_steps.proofs.Passing.{passes, stops_here, found_here, none_left}
use Rattle.expr_steps.proofs.step.find.Goals as goal

pub returns-in-Some : goal.returns-in-Some
returns-in-Some g c =
    found_here (g.N.Names.scope c.args.names.now) c.args.limit (token_seen c.args.token) c.args.expected.now c.loop-above.above c.at-next.result.now (omega arith) c.at-next.ensures _ (sym c.in-Some.ensures) c.loop-above.invariant

pub returns-then-not-ends : goal.returns-then-not-ends
returns-then-not-ends g c =
    stops_here (g.N.Names.scope c.args.names.now) c.args.limit (token_seen c.args.token) c.args.expected.now c.loop-above.above c.at-next.result.now (omega arith) c.at-next.ensures (sym c.in-None.ensures) (sym c.if-not-ends.ensures) c.loop-above.invariant

pub loop-above-preserved : goal.loop-above-preserved
loop-above-preserved g c =
    passes (g.N.Names.scope c.args.names.now) c.args.limit (token_seen c.args.token) c.args.expected.now c.loop-above.above c.at-next.result.now (omega arith) c.at-next.ensures (sym c.in-None.ensures) (sym c.if-not-ends.ensures) c.loop-above.invariant

pub returns : goal.returns
returns g c = none_left (g.N.Names.scope c.args.names.now) c.args.limit (token_seen c.args.token) c.args.expected.now c.loop-above.above (omega arith) c.loop-above.invariant
