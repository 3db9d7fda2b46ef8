use Rattle.world_spawns.proofs.Given.{in_at}
use Rattle.world_spawns.proofs.no_row.NoRow.fill.Goals as goal

pub part-requires-clause-suits : goal.part-requires-clause-suits
part-requires-clause-suits c = c.requires.suit c.part-item.result (in_at c.args.from.now c.loop-part.part-index c.part-item.result c.loop-part-test.true c.part-item.is)

pub part-requires-clause-reads : goal.part-requires-clause-reads
part-requires-clause-reads c = c.requires.read c.part-item.result (in_at c.args.from.now c.loop-part.part-index c.part-item.result c.loop-part-test.true c.part-item.is)
