use Rattle.expr_grammar.proofs.Answered.{switch_refused, switch_there, switch_meant}
use Rattle.expr_grammar.proofs.TreeAnswers.{switch_told, switch_fault_told}
use Rattle.expr_machine.proofs.readers.read_switch_by.Goals as goal

pub the_switch-requires : goal.the_switch-requires
the_switch-requires g c = switch_there (g.N.Names.scope c.args.names.now) c.requires c.args.text.now c.in-Ok.built c.in-Ok.ensures

pub returns-in-Ok-clause-reads : goal.returns-in-Ok-clause-reads
returns-in-Ok-clause-reads g c = switch_meant (g.N.Names.scope c.args.names.now) c.requires c.args.text.now c.in-Ok.built c.the_switch.result c.in-Ok.ensures c.the_switch.ensures

pub returns-in-Ok-clause-told : goal.returns-in-Ok-clause-told
returns-in-Ok-clause-told g c = switch_told (g.N.Names.scope c.args.names.now) c.args.text.now c.in-Ok.built c.the_switch.result c.in-Ok.ensures c.the_switch.ensures

pub returns-in-Err-clause-reads : goal.returns-in-Err-clause-reads
returns-in-Err-clause-reads g c = switch_refused (g.N.Names.scope c.args.names.now) c.requires c.args.text.now c.in-Err.fault c.in-Err.ensures

pub returns-in-Err-clause-told : goal.returns-in-Err-clause-told
returns-in-Err-clause-told g c = switch_fault_told (g.N.Names.scope c.args.names.now) c.args.text.now c.in-Err.fault c.in-Err.ensures
