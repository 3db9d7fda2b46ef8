use Rattle.scenario_laws.proofs.Runs.{is_runnable}
use Rattle.scenario_laws.proofs.what_passes_is_runnable.Goals as goal

pub returns : goal.returns
returns c = λ bytes s plan read passes. is_runnable bytes s plan read passes
