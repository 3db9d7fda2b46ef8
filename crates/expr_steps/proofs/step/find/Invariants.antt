use Rattle.expr_tokens.specs.Seen.{token_seen}
use Rattle.expr_steps.proofs.Passing.{Passed}
use Rattle.expr_steps.proofs.step.find.Given as goal

abbrev pub invariant-loop-above : goal.invariant-loop-above
invariant-loop-above g l = Passed (g.N.Names.scope l.names) l.limit (token_seen l.token) l.expected l.above
