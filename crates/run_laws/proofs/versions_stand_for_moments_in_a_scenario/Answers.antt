use Rattle.run_laws.proofs.RunVersions.{run_turned}
use Rattle.run_laws.proofs.versions_stand_for_moments_in_a_scenario.Goals as goal

pub returns : goal.returns
returns c = λ trace files s version ordered frames systems. run_turned trace files s version ordered frames systems
