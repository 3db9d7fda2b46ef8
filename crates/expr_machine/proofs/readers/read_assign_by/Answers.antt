use Rattle.expr_grammar.proofs.Answered.{assign_refused, assign_there, assign_meant}
use Rattle.expr_grammar.proofs.TreeAnswers.{assign_told, assign_fault_told}
use Rattle.expr_machine.proofs.readers.read_assign_by.Goals as goal

pub the_assign-requires : goal.the_assign-requires
the_assign-requires g c = assign_there (g.N.Names.scope c.args.names.now) c.requires c.args.text.now c.in-Ok.built c.in-Ok.ensures

pub returns-in-Ok-clause-reads : goal.returns-in-Ok-clause-reads
returns-in-Ok-clause-reads g c = assign_meant (g.N.Names.scope c.args.names.now) c.requires c.args.text.now c.in-Ok.built c.the_assign.result c.in-Ok.ensures c.the_assign.ensures

pub returns-in-Ok-clause-told : goal.returns-in-Ok-clause-told
returns-in-Ok-clause-told g c = assign_told (g.N.Names.scope c.args.names.now) c.args.text.now c.in-Ok.built c.the_assign.result c.in-Ok.ensures c.the_assign.ensures

pub returns-in-Err-clause-reads : goal.returns-in-Err-clause-reads
returns-in-Err-clause-reads g c = assign_refused (g.N.Names.scope c.args.names.now) c.requires c.args.text.now c.in-Err.fault c.in-Err.ensures

pub returns-in-Err-clause-told : goal.returns-in-Err-clause-told
returns-in-Err-clause-told g c = assign_fault_told (g.N.Names.scope c.args.names.now) c.args.text.now c.in-Err.fault c.in-Err.ensures
