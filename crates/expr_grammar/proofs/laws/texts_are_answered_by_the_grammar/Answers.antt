use Rattle.expr_grammar.proofs.ByGrammar.{expr_by_grammar, expr_no_want, ref_by_grammar, ref_no_want, assign_by_grammar, assign_no_want, switch_by_grammar, switch_no_want}
use Rattle.expr_grammar.proofs.CommandAnswers.{command_by_grammar, command_no_want}
use Rattle.expr_grammar.proofs.laws.texts_are_answered_by_the_grammar.Goals as goal

pub returns-clause-exprs : goal.returns-clause-exprs
returns-clause-exprs c = λ s lawful text. (expr_by_grammar s lawful text, expr_no_want s lawful text)

pub returns-clause-refs : goal.returns-clause-refs
returns-clause-refs c = λ s lawful text. (ref_by_grammar s lawful text, ref_no_want s lawful text)

pub returns-clause-assigns : goal.returns-clause-assigns
returns-clause-assigns c = λ s lawful text. (assign_by_grammar s lawful text, assign_no_want s lawful text)

pub returns-clause-switches : goal.returns-clause-switches
returns-clause-switches c = λ s lawful text. (switch_by_grammar s lawful text, switch_no_want s lawful text)

pub returns-clause-commands : goal.returns-clause-commands
returns-clause-commands c = λ s lawful serves text. (command_by_grammar s text lawful serves, command_no_want s text)
