use Rattle.scenario_laws.proofs.Kept.{has_lawful_registry}
use Rattle.scenario_laws.proofs.what_is_read_has_a_lawful_registry.Goals as goal

pub returns : goal.returns
returns c = λ bytes s is. has_lawful_registry bytes s is
