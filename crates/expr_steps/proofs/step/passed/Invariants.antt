use Rattle.std.proofs.Common.{ℕ}
use Rattle.expr_tokens.specs.Seen.{token_seen}
use Rattle.expr_grammar.specs.Scopes.{Scope}
use Rattle.expr_steps.proofs.Passing.{Passed}
use Rattle.expr_steps.proofs.step.passed.Given as goal

abbrev pub invariant-loop-above : goal.invariant-loop-above
invariant-loop-above l = (s : Scope) (limit : ℕ) → Passed s limit (token_seen l.token) l.expected l.above
