use Rattle.std.proofs.Common.{◌∙◌, ap, not}
use Rattle.block_columns.proofs.Switches.{all_there}
use Rattle.block_columns.proofs.stores.has_all.Goals as goal

pub returns : goal.returns
returns c = λ is k within. all_there c.args.n c.args.rows.now c.first.result c.and_not.result c.next_from.result c.requires c.first.ensures c.and_not.ensures c.next_from.ensures.least (c.is_none.ensures ∙ ap not is) k within
