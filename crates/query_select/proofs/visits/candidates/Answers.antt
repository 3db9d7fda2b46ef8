use Rattle.query_select.proofs.Walks.{part_in}
use Rattle.query_select.proofs.visits.candidates.Goals as goal

pub add_candidates-requires-clause-there : goal.add_candidates-requires-clause-there
add_candidates-requires-clause-there g c = c.requires.there c.a-item.result (part_in c.args.matching.now c.loop-a.a-index c.a-item.result c.loop-a-test.true c.a-item.is)

pub add_candidates-requires-clause-ready : goal.add_candidates-requires-clause-ready
add_candidates-requires-clause-ready g c = c.requires.ready c.a-item.result (part_in c.args.matching.now c.loop-a.a-index c.a-item.result c.loop-a-test.true c.a-item.is)
