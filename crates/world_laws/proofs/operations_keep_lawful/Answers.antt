use Rattle.world_laws.proofs.Kept.{operate_lawful}
use Rattle.world_laws.proofs.operations_keep_lawful.Goals as goal

pub returns : goal.returns
returns c = λ capacity fits w operation suits lawful. operate_lawful capacity fits w operation suits lawful
