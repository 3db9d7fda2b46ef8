use Rattle.expr_grammar.proofs.CommandBuilt.{command_built}
use Rattle.expr_grammar.proofs.CommandRead.{command_read}
use Rattle.expr_grammar.proofs.CommandStarts.{command_fault}
use Rattle.expr_grammar.proofs.CommandUnique.{command_unique}
use Rattle.expr_grammar.proofs.laws.machine_reads_commands.Goals as goal

pub returns-clause-builds : goal.returns-clause-builds
returns-clause-builds c = λ s lawful serves limit command fits. command_built s lawful serves limit command fits

pub returns-clause-reads : goal.returns-clause-reads
returns-clause-reads c = λ s lawful serves limit ts ws h. let r = command_read s lawful serves limit ts ws h in (r.command, r.fits, r.tokens)

pub returns-clause-one : goal.returns-clause-one
returns-clause-one c = λ s lawful serves limit x y f g e. command_unique s lawful limit x y f g e

pub returns-clause-faults : goal.returns-clause-faults
returns-clause-faults c = λ s lawful serves limit tokens end cause at stops. command_fault s lawful serves limit tokens end cause at stops
