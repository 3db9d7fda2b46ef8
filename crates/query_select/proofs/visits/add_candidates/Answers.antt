use Rattle.std.proofs.Common.{subst}
use Rattle.world_model.specs.Members.{In}
use Rattle.query_select.proofs.Walks.{get_in}
use Rattle.query_select.proofs.visits.add_candidates.Goals as goal

pub add_candidate-requires : goal.add_candidate-requires
add_candidate-requires g c =
    c.requires.ready _ (subst (In _) c.blocks_of-number-items.ensures (get_in c.blocks_of-number-items.result.now c.loop-number.number-index 0 c.loop-number-test.true))
