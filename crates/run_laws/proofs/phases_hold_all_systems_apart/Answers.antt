use Rattle.run_laws.proofs.Grouping.{phases_apart, phases_whole}
use Rattle.run_laws.proofs.phases_hold_all_systems_apart.Goals as goal

pub returns-clause-apart : goal.returns-clause-apart
returns-clause-apart c = λ registry last ss q i. phases_apart registry last ss q i

pub returns-clause-whole : goal.returns-clause-whole
returns-clause-whole c = λ registry ss. phases_whole registry ss
