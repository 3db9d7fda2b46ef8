use Rattle.expr_grammar.proofs.Prefixes.{exprs_go_on, refs_go_on}
use Rattle.expr_grammar.proofs.laws.goes_on_with_the_grammar.Goals as goal

pub returns-clause-exprs : goal.returns-clause-exprs
returns-clause-exprs c = λ s lawful limit front. exprs_go_on s lawful limit front

pub returns-clause-refs : goal.returns-clause-refs
returns-clause-refs c = λ s lawful limit front. refs_go_on s lawful limit front
