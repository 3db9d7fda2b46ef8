use Rattle.read_laws.proofs.Scenarios.{is_lawful_scenario}
use Rattle.read_laws.proofs.what_is_read_is_lawful.Goals as goal

pub returns : goal.returns
returns c = λ bytes s is. is_lawful_scenario bytes s is
