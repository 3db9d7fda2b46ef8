use Rattle.expr_tokens.proofs.Unique.{one_list}
use Rattle.expr_tokens.proofs.lexer.one_list.Goals as goal

pub returns : goal.returns
returns c = λ text ps qs a b. one_list ps qs 0 text a b
