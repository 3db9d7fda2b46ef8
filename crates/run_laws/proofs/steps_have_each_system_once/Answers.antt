use Rattle.run_laws.proofs.Moments.{steps_are_distinct}
use Rattle.run_laws.proofs.steps_have_each_system_once.Goals as goal

pub returns : goal.returns
returns c = λ s ordered. steps_are_distinct s ordered
