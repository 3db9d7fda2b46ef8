use Rattle.std.proofs.Common.{None}
use Rattle.run_model.specs.Clock.{versions}
use Rattle.run_laws.proofs.RunAgree.{Touched, cells_agree, said_is}
use Rattle.run_laws.proofs.jobs_read_only_what_the_system_touches.Goals as goal

pub returns : goal.returns
returns c = λ registry s o p others spot home r q h. (
  cells_agree versions registry s None 0 (Touched versions registry s None 0) (λ t i. i) o p others spot home r q h,
  said_is versions registry s None 0 (Touched versions registry s None 0) (λ t i. i) o p others spot home r q h,
)
