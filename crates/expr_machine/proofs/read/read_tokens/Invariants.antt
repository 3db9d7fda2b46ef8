use Rattle.std.proofs.Common.{[]}
use Rattle.expr_steps.specs.Expecting.{symbols}
use Rattle.expr_machine.proofs.TokenSteps.{StandsAt}
use Rattle.expr_machine.proofs.read.read_tokens.Given as goal

abbrev pub invariant-loop-lexeme : goal.invariant-loop-lexeme
invariant-loop-lexeme g l =
    StandsAt (g.N.Names.scope l.names) (symbols l.fn.expected) l.lexemes l.lexeme-index (record { waits = symbols l.expected; built = l.operands })
