use Rattle.std.proofs.Common.{None}
use Rattle.run_model.specs.Clock.{versions}
use Rattle.run_laws.proofs.Phases.{cells_keep}
use Rattle.run_laws.proofs.jobs_write_only_what_the_system_writes.Goals as goal

pub returns : goal.returns
returns c = λ registry s others spot x. cells_keep versions registry s None 0 others spot x
