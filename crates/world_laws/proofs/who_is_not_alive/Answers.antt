use Rattle.world_laws.proofs.Meanings.{null_dead, zero_dead, free_dead, index_made}
use Rattle.world_laws.proofs.who_is_not_alive.Goals as goal

pub returns-clause-null : goal.returns-clause-null
returns-clause-null c = λ capacity w l. null_dead capacity w l

pub returns-clause-zero : goal.returns-clause-zero
returns-clause-zero c = λ capacity w l e is. zero_dead capacity w l e is

pub returns-clause-free : goal.returns-clause-free
returns-clause-free c = λ capacity w l e i. free_dead capacity w l e i

pub returns-clause-made : goal.returns-clause-made
returns-clause-made c = λ capacity w l x i. index_made capacity w l x i
