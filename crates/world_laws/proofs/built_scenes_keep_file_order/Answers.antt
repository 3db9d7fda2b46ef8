use Rattle.world_laws.proofs.FileOrder.{built_in_file_order, nodes_named}
use Rattle.world_laws.proofs.Arriving.{fresh_ids}
use Rattle.world_laws.proofs.built_scenes_keep_file_order.Goals as goal

pub returns-clause-rows : goal.returns-clause-rows
returns-clause-rows c = λ capacity fits registry lawful load fit nodes h. built_in_file_order capacity fits registry lawful load fit nodes h

pub returns-clause-names : goal.returns-clause-names
returns-clause-names c = λ capacity registry load nodes h. nodes_named capacity registry load nodes h

pub returns-clause-fresh : goal.returns-clause-fresh
returns-clause-fresh c = λ n k less. fresh_ids n k less
