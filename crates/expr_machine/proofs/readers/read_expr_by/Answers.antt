use Rattle.expr_grammar.proofs.Answered.{expr_refused, expr_there, expr_meant}
use Rattle.expr_grammar.proofs.TreeAnswers.{expr_told, expr_fault_told}
use Rattle.expr_machine.proofs.readers.read_expr_by.Goals as goal

pub the_int-requires : goal.the_int-requires
the_int-requires g c = expr_there (g.N.Names.scope c.args.names.now) c.requires c.args.text.now c.in-Ok.built c.in-Ok.ensures

pub returns-in-Ok-clause-reads : goal.returns-in-Ok-clause-reads
returns-in-Ok-clause-reads g c = expr_meant (g.N.Names.scope c.args.names.now) c.requires c.args.text.now c.in-Ok.built c.the_int.result c.in-Ok.ensures c.the_int.ensures

pub returns-in-Ok-clause-told : goal.returns-in-Ok-clause-told
returns-in-Ok-clause-told g c = expr_told (g.N.Names.scope c.args.names.now) c.args.text.now c.in-Ok.built c.the_int.result c.in-Ok.ensures c.the_int.ensures

pub returns-in-Err-clause-reads : goal.returns-in-Err-clause-reads
returns-in-Err-clause-reads g c = expr_refused (g.N.Names.scope c.args.names.now) c.requires c.args.text.now c.in-Err.fault c.in-Err.ensures

pub returns-in-Err-clause-told : goal.returns-in-Err-clause-told
returns-in-Err-clause-told g c = expr_fault_told (g.N.Names.scope c.args.names.now) c.args.text.now c.in-Err.fault c.in-Err.ensures
