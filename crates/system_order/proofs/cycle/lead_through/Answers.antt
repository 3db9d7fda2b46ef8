use Rattle.std.proofs.Common.{◌<◌, arith, length}
use Rattle.std.proofs.lemmas.List.Edits.{map_over_more}
use Rattle.system_order.specs.Chain.{widened}
use Rattle.system_order.proofs.cycle.lead_through.Goals as goal

pub loop-row-preserved : goal.loop-row-preserved
loop-row-preserved c =
    let within : c.loop-row.row-index < length c.args.rows.now = omega arith in
    rw (c.widen.ensures, ← c.row-item.is) (map_over_more (widened c.in_ok-more.more c.args.at) c.args.rows.now c.loop-row.rows c.loop-row.row-index c.row-item.result within c.loop-row.invariant c.row-item.is)
