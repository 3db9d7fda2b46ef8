use Rattle.scenario_laws.proofs.Kept.{can_be_checked}
use Rattle.scenario_laws.proofs.what_is_read_can_be_checked.Goals as goal

pub returns : goal.returns
returns c = λ bytes s is. can_be_checked bytes s is
