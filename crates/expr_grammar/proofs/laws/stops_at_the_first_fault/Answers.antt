use Rattle.expr_grammar.proofs.Starts.{expr_fault, ref_fault, assign_fault, switch_fault}
use Rattle.expr_grammar.proofs.laws.stops_at_the_first_fault.Goals as goal

pub returns-clause-exprs : goal.returns-clause-exprs
returns-clause-exprs c = λ s lawful limit tokens end cause at stops. expr_fault s lawful limit tokens end cause at stops

pub returns-clause-refs : goal.returns-clause-refs
returns-clause-refs c = λ s lawful limit tokens end cause at stops. ref_fault s lawful limit tokens end cause at stops

pub returns-clause-assigns : goal.returns-clause-assigns
returns-clause-assigns c = λ s lawful limit tokens end cause at stops. assign_fault s lawful limit tokens end cause at stops

pub returns-clause-switches : goal.returns-clause-switches
returns-clause-switches c = λ s lawful limit tokens end cause at stops. switch_fault s lawful limit tokens end cause at stops
