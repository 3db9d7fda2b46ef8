use Rattle.world_laws.proofs.Meanings.{each_once, index_once}
use Rattle.world_laws.proofs.each_entity_is_there_once.Goals as goal

pub returns-clause-found : goal.returns-clause-found
returns-clause-found c = λ capacity w l x i. each_once capacity w l x i

pub returns-clause-index : goal.returns-clause-index
returns-clause-index c = λ capacity w l x y i j same. index_once capacity w l x y i j same
