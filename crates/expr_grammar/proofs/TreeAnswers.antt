-- What the readers of expressions, references, assignments and switches return is the answer.
use Rattle.std.proofs.Common.{ℕ, ◌≡◌, List, [], ◌∷◌, false, Ok, Err, refl, ap, ◌∙◌}
use Rattle.expr_grammar.specs.declared.fault.ExprFault.{ExprFault}
use Rattle.expr_grammar.specs.declared.symbol.Symbol.TheVariants as wait
use Rattle.expr_grammar.specs.declared.symbol.Built.{Built}
use Rattle.expr_grammar.specs.declared.symbol.Built.TheVariants as built
use Rattle.expr_trees.specs.declared.tree.Expr.{Expr}
use Rattle.expr_trees.specs.declared.tree.RefExpr.{RefExpr}
use Rattle.expr_trees.specs.declared.tree.ValueExpr.{ValueExpr}
use Rattle.expr_trees.specs.declared.tree.ValueExpr.TheVariants as values
use Rattle.expr_trees.specs.declared.tree.Assign.{Assign}
use Rattle.expr_trees.specs.declared.tree.Switch.{Switch}
use Rattle.expr_grammar.specs.declared.words.FieldUse.TheVariants.{Assigned}
use Rattle.expr_grammar.specs.declared.words.TypeUse.TheVariants.{Switched}
use Rattle.expr_grammar.specs.Answers.{the_expr, the_ref, the_value, the_assign, the_switch, expr_answer, ref_answer, assign_answer, switch_answer, ButMemory}
use Rattle.expr_grammar.specs.Stops.{built_of, built_assign, built_switch}
use Rattle.expr_grammar.specs.Readings.{Reads, Refuses}
use Rattle.expr_grammar.specs.Scopes.{Scope}
use Rattle.expr_grammar.proofs.Answering.{tree_told, fault_told}

-- ---- the tree of what was built of it

value_back : (v : ValueExpr) → the_value (built_of v) ≡ v
value_back (values.Int e) = refl
value_back (values.Ref r) = refl

pub assign_back : (a : Assign) → the_assign (built_assign a) ≡ a
assign_back a = let value = value_back a.value in λ i. record { ty = a.ty; field = a.field; value = value i }

-- ---- what is answered where the machine reads or refuses

module _ (s : Scope) (text : List ℕ) where
  pub expr_told : (ws : List Built) (e : Expr) → Reads s (wait.Level 5 0 ∷ []) text ws → ws ≡ built.Int e ∷ [] → expr_answer s text ≡ Ok e
  unfolding expr_answer
  expr_told ws e k is = tree_told the_expr s (wait.Level 5 0 ∷ []) text ws e k (ap (λ bs. the_expr bs) is)

  pub expr_fault_told : (f : ExprFault) → Refuses s (wait.Level 5 0 ∷ []) text f → ButMemory f.cause (expr_answer s text ≡ Err f)
  unfolding expr_answer
  expr_fault_told f k = fault_told the_expr s (wait.Level 5 0 ∷ []) text f k

  pub ref_told : (ws : List Built) (r : RefExpr) → Reads s (wait.Ref false ∷ []) text ws → ws ≡ built.Ref r ∷ [] → ref_answer s text ≡ Ok r
  unfolding ref_answer
  ref_told ws r k is = tree_told the_ref s (wait.Ref false ∷ []) text ws r k (ap (λ bs. the_ref bs) is)

  pub ref_fault_told : (f : ExprFault) → Refuses s (wait.Ref false ∷ []) text f → ButMemory f.cause (ref_answer s text ≡ Err f)
  unfolding ref_answer
  ref_fault_told f k = fault_told the_ref s (wait.Ref false ∷ []) text f k

  pub assign_told : (ws : List Built) (a : Assign) → Reads s (wait.TypeField Assigned ∷ []) text ws → ws ≡ built_assign a → assign_answer s text ≡ Ok a
  unfolding assign_answer
  assign_told ws a k is = tree_told the_assign s (wait.TypeField Assigned ∷ []) text ws a k (ap (λ bs. the_assign bs) is ∙ assign_back a)

  pub assign_fault_told : (f : ExprFault) → Refuses s (wait.TypeField Assigned ∷ []) text f → ButMemory f.cause (assign_answer s text ≡ Err f)
  unfolding assign_answer
  assign_fault_told f k = fault_told the_assign s (wait.TypeField Assigned ∷ []) text f k

  pub switch_told : (ws : List Built) (w : Switch) → Reads s (wait.Type Switched ∷ wait.Becomes ∷ wait.Level 5 0 ∷ []) text ws → ws ≡ built_switch w → switch_answer s text ≡ Ok w
  unfolding switch_answer
  switch_told ws w k is = tree_told the_switch s (wait.Type Switched ∷ wait.Becomes ∷ wait.Level 5 0 ∷ []) text ws w k (ap (λ bs. the_switch bs) is)

  pub switch_fault_told : (f : ExprFault) → Refuses s (wait.Type Switched ∷ wait.Becomes ∷ wait.Level 5 0 ∷ []) text f → ButMemory f.cause (switch_answer s text ≡ Err f)
  unfolding switch_answer
  switch_fault_told f k = fault_told the_switch s (wait.Type Switched ∷ wait.Becomes ∷ wait.Level 5 0 ∷ []) text f k
