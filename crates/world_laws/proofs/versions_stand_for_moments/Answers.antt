use Rattle.world_laws.proofs.Versions.{operate_turned}
use Rattle.world_laws.proofs.MovedVersions.{moved_turned, attached_turned}
use Rattle.world_laws.proofs.versions_stand_for_moments.Goals as goal

pub returns-clause-operations : goal.returns-clause-operations
returns-clause-operations c = λ version capacity w operation. operate_turned version capacity w operation

pub returns-clause-moved : goal.returns-clause-moved
returns-clause-moved c = λ version own w scene. moved_turned version own w scene

pub returns-clause-attached : goal.returns-clause-attached
returns-clause-attached c = λ version own w scene. attached_turned version own w scene
