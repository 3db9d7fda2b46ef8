use Rattle.run_laws.proofs.Clocks.{versions_run}
use Rattle.run_laws.proofs.versions_stand_for_moments_in_a_run.Goals as goal

pub returns : goal.returns
returns c = λ first s last frame w version last_is has. versions_run first s last frame w version last_is has
