-- A value on top of what was built.
use Rattle.std.proofs.Common.{◌≡◌, List, ◌∷◌, Some, refl}
use Rattle.expr_trees.specs.declared.tree.ValueExpr.{ValueExpr}
use Rattle.expr_trees.specs.declared.tree.ValueExpr.TheVariants as values
use Rattle.expr_grammar.specs.declared.symbol.Built.{Built}
use Rattle.expr_grammar.specs.Stops.{built_of}
use Rattle.expr_steps.specs.Expecting.{top_value}

pub value_there : (v : ValueExpr) (bs : List Built) → top_value (built_of v ∷ bs) ≡ Some v
value_there (values.Int e) bs = refl
value_there (values.Ref r) bs = refl
