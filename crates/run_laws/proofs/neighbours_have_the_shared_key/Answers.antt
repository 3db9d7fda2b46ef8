use Rattle.run_laws.proofs.SharedKeys.{neighbours_are_shared}
use Rattle.run_laws.proofs.neighbours_have_the_shared_key.Goals as goal

pub returns : goal.returns
returns c = λ es. neighbours_are_shared es
