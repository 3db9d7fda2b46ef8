use Rattle.expr_tokens.proofs.Lexed.{are_tokens}
use Rattle.expr_tokens.proofs.lexer.text_has_tokens.Goals as goal

pub returns : goal.returns
returns c = λ text. are_tokens text
