-- The result for a text in its scope, as a function: what the text means, or its first fault.
use Rattle.std.specs.Prelude.{ℕ, ◌≡◌, List, [], ◌∷◌, nat_lt, Option, None, Some, if◌then◌else◌, length, pos, false, Result, Ok, Err}
use Rattle.ent_types.specs.declared.limits.TheConstants.{LONGEST_TEXT, MOST_NESTING}
use Rattle.expr_tokens.specs.Tokens.{Placed}
use Rattle.expr_tokens.specs.Lexing.{tokens_of}
use Rattle.ent_types.specs.declared.entity.TypeId.{TypeId}
use Rattle.expr_grammar.specs.declared.fault.ExprFault.{ExprFault}
use Rattle.expr_grammar.specs.declared.fault.ExprCause.{ExprCause}
use Rattle.expr_grammar.specs.declared.fault.ExprCause.TheVariants.{TooLong, BadChar, NumberRange, TooDeep, UnknownName, Unexpected, Memory}
use Rattle.expr_grammar.specs.declared.symbol.Symbol.{Symbol}
use Rattle.expr_grammar.specs.declared.symbol.Symbol.TheVariants as wait
use Rattle.expr_grammar.specs.declared.symbol.Built.{Built}
use Rattle.expr_grammar.specs.declared.symbol.Built.TheVariants as built
use Rattle.expr_trees.specs.declared.tree.Expr.{Expr}
use Rattle.expr_trees.specs.declared.tree.Expr.TheVariants as exprs
use Rattle.expr_trees.specs.declared.tree.RefExpr.{RefExpr}
use Rattle.expr_trees.specs.declared.tree.RefExpr.TheVariants.{Null}
use Rattle.expr_trees.specs.declared.tree.ValueExpr.{ValueExpr}
use Rattle.expr_trees.specs.declared.tree.ValueExpr.TheVariants as values
use Rattle.expr_trees.specs.declared.tree.Assign.{Assign}
use Rattle.expr_trees.specs.declared.tree.Switch.{Switch}
use Rattle.expr_trees.specs.declared.tree.CommandText.{CommandText}
use Rattle.expr_trees.specs.declared.tree.CommandText.TheVariants as commands
use Rattle.expr_grammar.specs.declared.words.FieldUse.TheVariants.{Assigned}
use Rattle.expr_grammar.specs.declared.words.TypeUse.TheVariants.{Switched}
use Rattle.expr_grammar.specs.Machine.{State, settle, finish}
use Rattle.expr_grammar.specs.Stops.{cause_at}
use Rattle.expr_grammar.specs.Scopes.{Scope}

abbrev pub or_fault : Option (List Built) → ExprFault → Result (List Built) ExprFault
or_fault None fault = Err fault
or_fault (Some bs) fault = Ok bs

abbrev pub goes_on : Option State → ExprFault → (State → Result (List Built) ExprFault) → Result (List Built) ExprFault
goes_on None fault later = Err fault
goes_on (Some next) fault later = later next

-- what the machine builds of the tokens, or the fault at the first that it doesn't take, or at the text's end
unfoldable pub stopped : Scope → ℕ → State → List Placed → ℕ → Result (List Built) ExprFault
stopped s limit st [] end = or_fault (finish st.waits st.built) (record { cause = Unexpected; at = end })
stopped s limit st (p ∷ rest) end =
    goes_on (settle s limit st.waits st.built p.token) (record { cause = cause_at s limit st.waits st.built p.token; at = p.at })
    (λ next. stopped s limit next rest end)

-- what a text builds that is read from these symbols, or its first fault
unfoldable pub answer : Scope → List Symbol → List ℕ → Result (List Built) ExprFault
answer s waits text =
    if nat_lt LONGEST_TEXT (length text) then Err (record { cause = TooLong; at = LONGEST_TEXT })
    else stopped s MOST_NESTING (record { waits = waits; built = [] }) (tokens_of text) (length text)

-- The tree that was built. What is built from the symbol of its sort has its shape, so the other clauses are never used.
abbrev pub the_expr : List Built → Expr
the_expr (built.Int e ∷ bs) = e
the_expr bs = exprs.Number (pos 0)

abbrev pub the_ref : List Built → RefExpr
the_ref (built.Ref r ∷ bs) = r
the_ref bs = Null

abbrev pub the_value : Built → ValueExpr
the_value (built.Int e) = values.Int e
the_value (built.Ref r) = values.Ref r
the_value b = values.Ref Null

abbrev pub no_type : TypeId
no_type = record { 0 = 0 }

abbrev pub the_assign : List Built → Assign
the_assign (v ∷ built.Field ty i ∷ bs) = record { ty = ty; field = i; value = the_value v }
the_assign bs = record { ty = no_type; field = 0; value = values.Ref Null }

abbrev pub the_switch : List Built → Switch
the_switch (built.Int e ∷ built.Type ty ∷ bs) = record { ty = ty; value = e }
the_switch bs = record { ty = no_type; value = exprs.Number (pos 0) }

abbrev pub the_command : List Built → CommandText
the_command (built.Command c ∷ bs) = c
the_command bs = commands.Destroy Null

abbrev pub made_by : {A : Type 0} → (List Built → A) → Result (List Built) ExprFault → Result A ExprFault
made_by tree (Ok bs) = Ok (tree bs)
made_by tree (Err fault) = Err fault

unfoldable pub expr_answer : Scope → List ℕ → Result Expr ExprFault
expr_answer s text = made_by the_expr (answer s (wait.Level 5 0 ∷ []) text)

unfoldable pub ref_answer : Scope → List ℕ → Result RefExpr ExprFault
ref_answer s text = made_by the_ref (answer s (wait.Ref false ∷ []) text)

unfoldable pub assign_answer : Scope → List ℕ → Result Assign ExprFault
assign_answer s text = made_by the_assign (answer s (wait.TypeField Assigned ∷ []) text)

unfoldable pub switch_answer : Scope → List ℕ → Result Switch ExprFault
switch_answer s text = made_by the_switch (answer s (wait.Type Switched ∷ wait.Becomes ∷ wait.Level 5 0 ∷ []) text)

unfoldable pub command_answer : Scope → List ℕ → Result CommandText ExprFault
command_answer s text = made_by the_command (answer s (wait.Verb ∷ []) text)

-- a fact that holds unless memory ran out
abbrev pub ButMemory : ExprCause → Type 0 → Type 0
ButMemory Memory P = Unit {0}
ButMemory TooLong P = P
ButMemory BadChar P = P
ButMemory NumberRange P = P
ButMemory TooDeep P = P
ButMemory UnknownName P = P
ButMemory Unexpected P = P

-- a reader returns what the text means, or that memory ran out
abbrev pub Tells : {A : Type 0} → Result A ExprFault → Result A ExprFault → Type 0
Tells meant (Ok x) = meant ≡ Ok x
Tells meant (Err fault) = ButMemory fault.cause (meant ≡ Err fault)
