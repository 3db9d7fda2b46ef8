use Rattle.expr_grammar.proofs.Answered.{ref_refused, ref_there, ref_meant}
use Rattle.expr_grammar.proofs.TreeAnswers.{ref_told, ref_fault_told}
use Rattle.expr_machine.proofs.readers.read_ref_by.Goals as goal

pub the_ref-requires : goal.the_ref-requires
the_ref-requires g c = ref_there (g.N.Names.scope c.args.names.now) c.requires c.args.text.now c.in-Ok.built c.in-Ok.ensures

pub returns-in-Ok-clause-reads : goal.returns-in-Ok-clause-reads
returns-in-Ok-clause-reads g c = ref_meant (g.N.Names.scope c.args.names.now) c.requires c.args.text.now c.in-Ok.built c.the_ref.result c.in-Ok.ensures c.the_ref.ensures

pub returns-in-Ok-clause-told : goal.returns-in-Ok-clause-told
returns-in-Ok-clause-told g c = ref_told (g.N.Names.scope c.args.names.now) c.args.text.now c.in-Ok.built c.the_ref.result c.in-Ok.ensures c.the_ref.ensures

pub returns-in-Err-clause-reads : goal.returns-in-Err-clause-reads
returns-in-Err-clause-reads g c = ref_refused (g.N.Names.scope c.args.names.now) c.requires c.args.text.now c.in-Err.fault c.in-Err.ensures

pub returns-in-Err-clause-told : goal.returns-in-Err-clause-told
returns-in-Err-clause-told g c = ref_fault_told (g.N.Names.scope c.args.names.now) c.args.text.now c.in-Err.fault c.in-Err.ensures
