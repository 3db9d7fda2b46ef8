-- What the texts of a record name, in the order of the texts. Checks, access and laws go by this one list.
use Rattle.std.specs.Prelude.{ℕ, List, [], ◌∷◌, ◌++◌, flat_map}
use Rattle.expr_trees.specs.declared.tree.Expr.{Expr, fold-Expr}
use Rattle.expr_trees.specs.declared.tree.Expr.TheOpen.{Expr-F}
use Rattle.expr_trees.specs.declared.tree.RefExpr.{RefExpr}
use Rattle.expr_trees.specs.declared.tree.RefExpr.TheVariants as refs
use Rattle.expr_trees.specs.declared.tree.ValueExpr.{ValueExpr}
use Rattle.expr_trees.specs.declared.tree.ValueExpr.TheVariants as values
use Rattle.expr_trees.specs.declared.tree.PartExpr.{PartExpr}
use Rattle.expr_trees.specs.declared.tree.Assign.{Assign}
use Rattle.expr_trees.specs.declared.tree.Switch.{Switch}
use Rattle.expr_trees.specs.declared.tree.CommandText.{CommandText}
use Rattle.expr_trees.specs.declared.tree.CommandText.TheVariants.{Create, Destroy, Add, Set, SetShared, Remove, Enable, Disable, Instantiate}
use Rattle.scenario_record.specs.declared.record.CommandEntry.{CommandEntry}
use Rattle.scenario_record.specs.declared.record.SystemEntry.{SystemEntry}

-- what a text names
pub data Use : Type 0 where
  -- a number field of the own row: its type and its place there
  own_number : ℕ → ℕ → Use
  -- a ref field of the own row
  own_ref : ℕ → ℕ → Use
  -- a field that `get` looks up
  looked_up : ℕ → ℕ → Use
  -- the type of `has`
  has_type : ℕ → Use
  -- the type of `on`
  on_type : ℕ → Use
  -- what the command with this number makes
  made : ℕ → Use

-- the type whose values a text reads in the own row, asks for by `on`, or looks up by `get`
abbrev pub read_types : Use → List ℕ
read_types (own_number ty i) = ty ∷ []
read_types (own_ref ty i) = ty ∷ []
read_types (looked_up ty i) = ty ∷ []
read_types (has_type ty) = []
read_types (on_type ty) = ty ∷ []
read_types (made k) = []

-- ---- the walk

abbrev pub in_ref : RefExpr → List Use
in_ref refs.Null = []
in_ref refs.Me = []
in_ref (refs.Made k) = made k ∷ []
in_ref (refs.Own ty i) = own_ref ty.0 i ∷ []
in_ref (refs.Entity e) = []

abbrev pub expr_step : Expr-F (List Use) → List Use
expr_step (Expr-F.Number z) = []
expr_step (Expr-F.Variable v) = []
expr_step (Expr-F.Own ty i) = own_number ty.0 i ∷ []
expr_step (Expr-F.Unary op a) = a
expr_step (Expr-F.Binary op a b) = a ++ b
expr_step (Expr-F.Pick c a b) = c ++ (a ++ b)
expr_step (Expr-F.Get r ty i) = in_ref r ++ looked_up ty.0 i ∷ []
expr_step (Expr-F.Alive r) = in_ref r
expr_step (Expr-F.Has r ty) = in_ref r ++ has_type ty.0 ∷ []
expr_step (Expr-F.Same r q) = in_ref r ++ in_ref q
expr_step (Expr-F.On ty) = on_type ty.0 ∷ []

abbrev pub in_expr : Expr → List Use
in_expr = fold-Expr (List Use) expr_step

abbrev pub in_value : ValueExpr → List Use
in_value (values.Int e) = in_expr e
in_value (values.Ref r) = in_ref r

abbrev pub in_part : PartExpr → List Use
in_part p = flat_map in_value p.values

abbrev pub in_act : CommandText → List Use
in_act (Create name parts) = flat_map in_part parts
in_act (Destroy r) = in_ref r
in_act (Add r p) = in_ref r ++ in_part p
in_act (Set r p) = in_ref r ++ in_part p
in_act (SetShared r p) = in_ref r ++ in_part p
in_act (Remove r ty) = in_ref r
in_act (Enable r ty) = in_ref r
in_act (Disable r ty) = in_ref r
in_act (Instantiate name r) = in_ref r

abbrev pub in_assign : Assign → List Use
in_assign a = in_value a.value

abbrev pub in_switch : Switch → List Use
in_switch w = in_expr w.value

abbrev pub in_command : CommandEntry → List Use
in_command c = in_expr c.when ++ (in_expr c.key ++ in_act c.act)

abbrev pub uses_of_assigns : SystemEntry → List Use
uses_of_assigns y = flat_map in_assign y.set

abbrev pub uses_of : SystemEntry → List Use
uses_of y = uses_of_assigns y ++ (flat_map in_switch y.enable ++ flat_map in_command y.command)
