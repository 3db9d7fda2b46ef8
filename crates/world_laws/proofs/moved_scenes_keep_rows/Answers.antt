use Rattle.world_laws.proofs.Moved.{moved_finds, moved_keeps}
use Rattle.world_laws.proofs.moved_scenes_keep_rows.Goals as goal

pub returns-clause-scene : goal.returns-clause-scene
returns-clause-scene c = λ capacity w scene l s same fits x i. moved_finds capacity w scene l s same fits x i

pub returns-clause-world : goal.returns-clause-world
returns-clause-world c = λ capacity w scene l s same fits x i. moved_keeps capacity w scene l s same fits x i
