use Rattle.expr_grammar.proofs.Whole.{expr_built, expr_read, ref_built, ref_read}
use Rattle.expr_grammar.proofs.laws.machine_reads_the_grammar.Goals as goal

pub returns-clause-builds : goal.returns-clause-builds
returns-clause-builds c = λ s lawful limit e fits. expr_built s lawful limit e fits

pub returns-clause-reads : goal.returns-clause-reads
returns-clause-reads c = λ s lawful limit ts ws h. expr_read s lawful limit ts ws h

pub returns-clause-builds_refs : goal.returns-clause-builds_refs
returns-clause-builds_refs c = λ s lawful limit r made fits. ref_built s lawful limit r made fits

pub returns-clause-reads_refs : goal.returns-clause-reads_refs
returns-clause-reads_refs c = λ s lawful limit made ts ws h. ref_read s lawful limit made ts ws h
