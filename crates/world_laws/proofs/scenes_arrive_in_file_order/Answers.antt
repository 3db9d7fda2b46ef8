use Rattle.world_laws.proofs.Moved.{ids_dead, ids_distinct}
use Rattle.world_laws.proofs.Arriving.{arrived_rows, scene_count, nodes_arrive, others_become_null}
use Rattle.world_laws.proofs.scenes_arrive_in_file_order.Goals as goal

pub returns-clause-rows : goal.returns-clause-rows
returns-clause-rows c = λ capacity fits w l load fit nodes h few x i. arrived_rows capacity fits w l load fit nodes h few x i

pub returns-clause-count : goal.returns-clause-count
returns-clause-count c = λ capacity fits w l load fit nodes h. scene_count capacity fits w l load fit nodes h

pub returns-clause-names : goal.returns-clause-names
returns-clause-names c = λ capacity w load nodes h. nodes_arrive capacity w load nodes h

pub returns-clause-others : goal.returns-clause-others
returns-clause-others c = λ nodes ids e no. others_become_null nodes ids e no

pub returns-clause-new : goal.returns-clause-new
returns-clause-new c = λ capacity w l n e i. ids_dead capacity w l n e i

pub returns-clause-distinct : goal.returns-clause-distinct
returns-clause-distinct c = λ capacity w l n. ids_distinct capacity w l n
