use Rattle.std.proofs.Common.{rules}
use Rattle.expr_read.proofs.PrintedExprs.{prints}
use Rattle.expr_read.proofs.print.print_expr.Goals as goal

pub returns : goal.returns
returns c = search (rules, prints)
