use Rattle.expr_grammar.proofs.CommandStarts.{command_refused, command_there, command_meant}
use Rattle.expr_grammar.proofs.CommandAnswers.{command_told, command_fault_told}
use Rattle.expr_machine.proofs.readers.read_command_by.Goals as goal

pub the_command-requires : goal.the_command-requires
the_command-requires g c = command_there (g.N.Names.scope c.args.names.now) c.requires.lawful c.requires.serves c.args.text.now c.in-Ok.built c.in-Ok.ensures

pub returns-in-Ok-clause-reads : goal.returns-in-Ok-clause-reads
returns-in-Ok-clause-reads g c = command_meant (g.N.Names.scope c.args.names.now) c.requires.lawful c.requires.serves c.args.text.now c.in-Ok.built c.the_command.result c.in-Ok.ensures c.the_command.ensures

pub returns-in-Ok-clause-told : goal.returns-in-Ok-clause-told
returns-in-Ok-clause-told g c = command_told (g.N.Names.scope c.args.names.now) c.args.text.now c.in-Ok.built c.the_command.result c.in-Ok.ensures c.the_command.ensures

pub returns-in-Err-clause-reads : goal.returns-in-Err-clause-reads
returns-in-Err-clause-reads g c = command_refused (g.N.Names.scope c.args.names.now) c.requires.lawful c.requires.serves c.args.text.now c.in-Err.fault c.in-Err.ensures

pub returns-in-Err-clause-told : goal.returns-in-Err-clause-told
returns-in-Err-clause-told g c = command_fault_told (g.N.Names.scope c.args.names.now) c.args.text.now c.in-Err.fault c.in-Err.ensures
