use Rattle.block_columns.proofs.Switches.{switched_here, switched_past}
use Rattle.block_columns.proofs.type_rows.disabled_in.Goals as goal

pub returns-clause-here : goal.returns-clause-here
returns-clause-here c = λ k within.
    switched_here c.args.n k c.args.off.now c.args.on.now c.args.rows.now c.first-all.result c.and_not-kept.result c.and_not-switched.result c.and_not.result c.and_not-2.result c.and_not-3.result c.requires within
    c.first-all.ensures c.and_not-kept.ensures c.and_not-switched.ensures c.and_not.ensures c.and_not-2.ensures c.and_not-3.ensures

pub returns-clause-past : goal.returns-clause-past
returns-clause-past c = λ k past. switched_past c.args.n k c.first-all.result c.and_not-2.result c.and_not-3.result past c.first-all.ensures c.and_not-3.ensures
