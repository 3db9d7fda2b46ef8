use Rattle.item_run.proofs.Held.{in_block, in_loan}
use Rattle.item_run.proofs.rows.Rows.type_rows.Goals as goal

pub returns-in-Some : goal.returns-in-Some
returns-in-Some c = in_loan c.self.invariant c.args.self.now c.self.view_is c.args.ty.0 c.in-Some.cells.now c.in-Some.ensures

pub returns-in-None : goal.returns-in-None
returns-in-None c = in_block c.self.invariant c.args.self.now c.self.view_is (λ cells. cells.now) c.args.ty.0 c.rows_of-in-None.result c.in-None.ensures c.rows_of-in-None.ensures.shape c.rows_of-in-None.ensures.cells
