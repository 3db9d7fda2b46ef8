use Rattle.std.proofs.Common.{[], refl}
use Rattle.expr_grammar.proofs.Unique.{unique, unique_ref}
use Rattle.expr_grammar.proofs.laws.one_derivation.Goals as goal

pub returns-clause-exprs : goal.returns-clause-exprs
returns-clause-exprs c = λ s lawful limit x y f g e. (unique s lawful limit x y 5 0 [] [] f g refl refl e).0

pub returns-clause-refs : goal.returns-clause-refs
returns-clause-refs c = λ s lawful made x y f g e. (unique_ref s x y made [] [] f g refl refl e).0
