-- What holds of each scenario that passed its checks, and of its plan.
use Rattle.std.specs.Prelude.{◌≡◌}
use Rattle.run_model.specs.Steps.{IsOrdered, steps_of}
use Rattle.run_laws.specs.Runnable.{IsRunnable}
use Rattle.entsim_commands.specs.declared.checked.Checked.{Checked}

-- it has what its run asks of it, and the plan has the steps of its frames
pub record HasPassed (c : Checked) : Type 0 where
  pub runnable : IsRunnable c.scenario
  pub ordered : IsOrdered c.scenario
  pub steps : c.plan.steps ≡ steps_of c.scenario
