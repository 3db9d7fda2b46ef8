use Rattle.world_laws.proofs.Moved.{moved_lawful, attached_lawful}
use Rattle.world_laws.proofs.moved_scenes_are_lawful.Goals as goal

pub returns-clause-moved : goal.returns-clause-moved
returns-clause-moved c = λ capacity w scene l s same fits. moved_lawful capacity w scene l s same fits

pub returns-clause-attached : goal.returns-clause-attached
returns-clause-attached c = λ capacity w scene l s same fits. attached_lawful capacity w scene l s same fits
