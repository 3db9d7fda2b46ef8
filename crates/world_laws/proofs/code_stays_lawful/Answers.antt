use Rattle.world_laws.proofs.Versions.{operate_lawful_code}
use Rattle.world_laws.proofs.MovedVersions.{moved_lawful_code}
use Rattle.world_laws.proofs.code_stays_lawful.Goals as goal

pub returns-clause-moved : goal.returns-clause-moved
returns-clause-moved c = λ capacity code scene l s same fits. moved_lawful_code capacity code scene l s same fits

pub returns-clause-operations : goal.returns-clause-operations
returns-clause-operations c = λ capacity fits code operation suits l. operate_lawful_code capacity fits code operation suits l
