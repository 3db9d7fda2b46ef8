use Rattle.run_laws.proofs.Phases.{phase_law, all_free}
use Rattle.run_laws.proofs.phases_are_the_fold_of_their_systems.Goals as goal

pub returns : goal.returns
returns c = λ clock frame w js apart. phase_law clock frame w js (all_free w.registry js apart)
