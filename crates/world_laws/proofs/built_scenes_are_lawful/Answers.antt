use Rattle.world_laws.proofs.Built.{built_lawful}
use Rattle.world_laws.proofs.built_scenes_are_lawful.Goals as goal

pub returns : goal.returns
returns c = λ capacity fits registry lawful load fit nodes all. built_lawful capacity fits registry lawful load fit nodes all
