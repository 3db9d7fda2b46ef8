use Rattle.item_run.proofs.Held.{entities_here}
use Rattle.item_run.proofs.rows.RowsBlockRows.entities.Goals as goal

pub returns : goal.returns
returns c = entities_here c.self.invariant c.args.self.now c.self.view_is c.entities.result.now c.entities.ensures
