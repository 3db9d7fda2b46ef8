use Rattle.run_laws.proofs.RootPhases.{root_phases}
use Rattle.run_laws.proofs.phases_are_those_of_each_root.Goals as goal

pub returns : goal.returns
returns c = λ s frame. root_phases s frame
