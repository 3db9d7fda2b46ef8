use Rattle.run_laws.proofs.Planned.{planned_steps}
use Rattle.run_laws.proofs.unplaced_systems_run_in_declared_order.Goals as goal

pub returns : goal.returns
returns c = λ s unplaced. planned_steps s unplaced
