use Rattle.run_model.specs.Run.{run}
use Rattle.run_laws.proofs.Visits.{visits_counted, matched_are}
use Rattle.run_laws.proofs.items_are_visits.Goals as goal

pub returns-clause-count : goal.returns-clause-count
unfolding run
returns-clause-count c = λ clock s last frame w. visits_counted clock w.registry s last w.blocks

pub returns-clause-rows : goal.returns-clause-rows
returns-clause-rows c = λ clock registry s last blocks. matched_are clock registry s last 0 blocks
