use Rattle.item_run.proofs.Held.{few}
use Rattle.item_run.proofs.rows.Rows.row.Goals as goal

pub invariant_of-result : goal.invariant_of-result
invariant_of-result c = (c.requires, few c.self.invariant c.args.self.now c.self.view_is c.args.place c.requires)
