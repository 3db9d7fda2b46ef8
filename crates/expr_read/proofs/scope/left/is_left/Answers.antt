use Rattle.std.proofs.Common.{not, ap, ◌∙◌}
use Rattle.expr_read.proofs.TypesLeft.{listed}
use Rattle.expr_read.proofs.scope.left.is_left.Goals as goal

pub returns : goal.returns
returns c = ap not (c.has.ensures.value ∙ listed c.args.used c.args.ty)
