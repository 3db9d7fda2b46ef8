use Rattle.run_laws.proofs.StepClocks.{step_turned}
use Rattle.run_laws.proofs.versions_stand_for_moments_in_a_step.Goals as goal

pub returns : goal.returns
returns c = λ first capacity trace st t version has. step_turned first capacity trace st t version has
