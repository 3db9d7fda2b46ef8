-- What the reductions of values make of the operands.
use Rattle.std.proofs.Common.{◌≡◌, List, [], ◌∷◌, None, refl}
use Rattle.expr_trees.specs.declared.tree.ValueExpr.{ValueExpr}
use Rattle.expr_trees.specs.declared.tree.ValueExpr.TheVariants as values
use Rattle.expr_grammar.specs.declared.symbol.Action.TheVariants as act
use Rattle.expr_grammar.specs.declared.symbol.Built.{Built}
use Rattle.expr_grammar.specs.declared.symbol.Built.TheVariants as built
use Rattle.expr_grammar.specs.Machine.{apply, with_value}
use Rattle.expr_grammar.specs.Stops.{built_of}
use Rattle.expr_steps.specs.Expecting.{top_value}

pub one_value : (v : ValueExpr) (bs : List Built) → apply act.Value (built_of v ∷ bs) ≡ with_value v bs
one_value (values.Int e) bs = refl
one_value (values.Ref r) bs = refl

pub no_value : (bs : List Built) → top_value bs ≡ None → apply act.Value bs ≡ []
no_value [] h = refl
no_value (built.Int e ∷ bs) h = absurd cc
no_value (built.Ref r ∷ bs) h = absurd cc
no_value (built.Type ty ∷ bs) h = refl
no_value (built.Field ty i ∷ bs) h = refl
no_value (built.Name name ∷ bs) h = refl
no_value (built.Part p ∷ bs) h = refl
no_value (built.Parts ps ∷ bs) h = refl
no_value (built.Command c ∷ bs) h = refl
