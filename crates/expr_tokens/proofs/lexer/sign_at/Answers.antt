use Rattle.std.proofs.Common.{sym}
use Rattle.expr_tokens.proofs.Fronts.{longest_single, no_sign}
use Rattle.expr_tokens.proofs.lexer.sign_at.Goals as goal

pub returns-in-Some-single : goal.returns-in-Some-single
returns-in-Some-single c = longest_single _ _ c.requires c.in_default.ensures (sym c.in-Some-single.ensures)

pub returns-in-None : goal.returns-in-None
returns-in-None c = no_sign _ c.requires c.in_default.ensures (sym c.in-None.ensures)
