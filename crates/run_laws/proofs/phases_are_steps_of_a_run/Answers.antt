use Rattle.run_laws.proofs.PhaseStep.{phase_steps}
use Rattle.run_laws.proofs.phases_are_steps_of_a_run.Goals as goal

pub returns : goal.returns
returns c = λ clock capacity trace frame ss distinct st apart. phase_steps clock capacity trace frame ss distinct st apart
