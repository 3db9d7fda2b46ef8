use Rattle.scenario_laws.proofs.Ordered.{is_ordered, is_planned, has_few_steps}
use Rattle.scenario_laws.proofs.what_passes_is_ordered.Goals as goal

pub returns-clause-ordered : goal.returns-clause-ordered
returns-clause-ordered c = λ s plan is. is_ordered s plan is

pub returns-clause-planned : goal.returns-clause-planned
returns-clause-planned c = λ s plan is. is_planned s plan is

pub returns-clause-few : goal.returns-clause-few
returns-clause-few c = λ s plan is. has_few_steps s plan is
