-- Where the machine stops, and why.
use Rattle.std.specs.Prelude.{ℕ, ◌≡◌, ◌+◌, ◌^◌, List, [], ◌∷◌, ◌++◌, Bool, ◌||◌, nat_le, Some, None, if◌then◌else◌, is_some, map}
use Rattle.expr_tokens.specs.Tokens.{Token, word, number, sign, bad, Placed}
use Rattle.expr_grammar.specs.declared.fault.ExprCause.{ExprCause}
use Rattle.expr_grammar.specs.declared.fault.ExprCause.TheVariants.{BadChar, NumberRange, TooDeep, UnknownName, Unexpected}
use Rattle.expr_grammar.specs.declared.symbol.Symbol.{Symbol}
use Rattle.expr_grammar.specs.declared.symbol.Built.{Built}
use Rattle.expr_grammar.specs.declared.symbol.Built.TheVariants as built
use Rattle.expr_trees.specs.declared.tree.ValueExpr.{ValueExpr}
use Rattle.expr_trees.specs.declared.tree.ValueExpr.TheVariants as values
use Rattle.expr_trees.specs.declared.tree.Assign.{Assign}
use Rattle.expr_trees.specs.declared.tree.Switch.{Switch}
use Rattle.expr_grammar.specs.Machine.{State, settle, finish, steps}
use Rattle.expr_grammar.specs.Scopes.{Scope}

-- the cause where the token is no name
abbrev pub deep_or : Bool → ExprCause → ExprCause
deep_or deep cause = if deep then TooDeep else cause

-- the cause at a token that isn't taken
abbrev pub cause_at : Scope → ℕ → List Symbol → List Built → Token → ExprCause
cause_at s limit waits bs bad = BadChar
cause_at s limit waits bs (word name) = deep_or (is_some (settle s (limit + 1) waits bs (word name))) UnknownName
cause_at s limit waits bs (sign g) = deep_or (is_some (settle s (limit + 1) waits bs (sign g))) Unexpected
cause_at s limit waits bs (number n) =
    if (nat_le (2 ^ 63) n || is_some (settle s limit waits bs (number 0))) then NumberRange
    else deep_or (is_some (settle s (limit + 1) waits bs (number n))) Unexpected

-- the machine stops in its state: it doesn't take the next token, or may not end if none is left
abbrev pub Halts : Scope → ℕ → State → List Placed → ℕ → ExprCause → ℕ → Type 0
Halts s limit st [] end cause at = (finish st.waits st.built ≡ None) × (cause ≡ Unexpected) × (at ≡ end)
Halts s limit st (p ∷ rest) end cause at =
    (settle s limit st.waits st.built p.token ≡ None) × (cause ≡ cause_at s limit st.waits st.built p.token) × (at ≡ p.at)

-- the machine takes a front of the tokens and stops there
pub record Stops (s : Scope) (limit : ℕ) (waits : List Symbol) (tokens : List Placed) (end : ℕ) (cause : ExprCause) (at : ℕ) : Type 0 where
  pub front : List Placed
  pub rest : List Placed
  pub state : State
  pub split : tokens ≡ front ++ rest
  pub taken : steps s limit (record { waits = waits; built = [] }) (map (λ p. p.token) front) ≡ Some state
  pub halts : Halts s limit state rest end cause at

-- what is built of a value, of an assign and of a switch
abbrev pub built_of : ValueExpr → Built
built_of (values.Int e) = built.Int e
built_of (values.Ref r) = built.Ref r

abbrev pub built_assign : Assign → List Built
built_assign a = built_of a.value ∷ built.Field a.ty a.field ∷ []

abbrev pub built_switch : Switch → List Built
built_switch w = built.Int w.value ∷ built.Type w.ty ∷ []
