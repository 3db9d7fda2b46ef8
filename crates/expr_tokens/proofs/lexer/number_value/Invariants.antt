use Rattle.std.proofs.Common.{◌≡◌, take}
use Rattle.expr_tokens.specs.Tokens.{number_value}
use Rattle.expr_tokens.proofs.lexer.number_value.Given as goal

abbrev pub invariant-loop-digit : goal.invariant-loop-digit
invariant-loop-digit l = l.value ≡ number_value (take l.digit-index l.digits)
