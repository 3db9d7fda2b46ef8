use Rattle.std.proofs.Common.{sym}
use Rattle.world_model.specs.World.{capacity}
use Rattle.run_model.specs.Clock.{moments}
use Rattle.run_model.specs.Steps.{steps_of}
use Rattle.run_model.specs.Outcome.{first_moment, outcome}
use Rattle.run_laws.proofs.FrameFold.{phases_are_run}
use Rattle.run_laws.proofs.Moments.{steps_are_distinct}
use Rattle.run_laws.proofs.phases_are_the_fold_of_the_steps.Goals as goal

pub returns-clause-steps : goal.returns-clause-steps
returns-clause-steps c = λ clock capacity trace files s steps distinct moment. phases_are_run clock capacity trace files s steps distinct moment

pub returns-clause-outcome : goal.returns-clause-outcome
unfolding outcome
returns-clause-outcome c = λ trace files s ordered.
    sym (phases_are_run (moments s.first_system_version) (capacity s.registry) trace files s (steps_of s) (steps_are_distinct s ordered) first_moment)
