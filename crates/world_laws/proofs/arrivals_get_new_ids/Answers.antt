use Rattle.world_laws.proofs.Moved.{ids_dead, ids_distinct}
use Rattle.world_laws.proofs.Renaming.{arrivals_in_order, others_are_null}
use Rattle.world_laws.proofs.arrivals_get_new_ids.Goals as goal

pub returns-clause-order : goal.returns-clause-order
returns-clause-order c = λ capacity w scene s. arrivals_in_order capacity scene s w

pub returns-clause-new : goal.returns-clause-new
returns-clause-new c = λ capacity w l n e i. ids_dead capacity w l n e i

pub returns-clause-distinct : goal.returns-clause-distinct
returns-clause-distinct c = λ capacity w l n. ids_distinct capacity w l n

pub returns-clause-others : goal.returns-clause-others
returns-clause-others c = λ capacity w scene s e dead. others_are_null capacity scene s w e dead
