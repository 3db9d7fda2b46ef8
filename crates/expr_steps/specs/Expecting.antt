-- What the parser expects and does, in terms of the grammar's machine. A step is decided before it changes anything.
use Rattle.std.specs.Prelude.{ℕ, zero, suc, ◌≡◌, ◌+◌, ◌-◌, List, [], ◌∷◌, ◌++◌, Bool, true, false, not, is_some, nat_lt, nat_le, nat_eq, Option, Some, None, drop, if◌then◌else◌}
use Rattle.ent_types.specs.declared.entity.TypeId.{TypeId}
use Rattle.expr_tokens.specs.Tokens.{Token, word, number, sign, bad}
use Rattle.expr_trees.specs.declared.tree.BinaryOp.{BinaryOp}
use Rattle.expr_trees.specs.declared.tree.Expr.{Expr}
use Rattle.expr_trees.specs.declared.tree.RefExpr.{RefExpr}
use Rattle.expr_trees.specs.declared.tree.PartExpr.{PartExpr}
use Rattle.expr_trees.specs.declared.tree.ValueExpr.{ValueExpr}
use Rattle.expr_trees.specs.declared.tree.ValueExpr.TheVariants as values
use Rattle.expr_trees.specs.declared.tree.CommandText.{CommandText}
use Rattle.expr_grammar.specs.declared.symbol.Symbol.{Symbol}
use Rattle.expr_grammar.specs.declared.symbol.Symbol.TheVariants as wait
use Rattle.expr_grammar.specs.declared.symbol.Action.{Action}
use Rattle.expr_grammar.specs.declared.symbol.Action.TheVariants as act
use Rattle.expr_grammar.specs.declared.symbol.Built.{Built}
use Rattle.expr_grammar.specs.declared.symbol.Built.TheVariants as built
use Rattle.expr_grammar.specs.Fitting.{operator_of, part_use, turn_use}
use Rattle.expr_grammar.specs.declared.words.Call.{Call}
use Rattle.expr_grammar.specs.declared.words.Call.TheVariants as calls
use Rattle.expr_grammar.specs.declared.words.FieldUse.TheVariants.{Looked}
use Rattle.expr_grammar.specs.declared.words.TypeUse.TheVariants.{Asked, Own}
use Rattle.expr_grammar.specs.declared.words.Verb.{Verb}
use Rattle.expr_grammar.specs.declared.words.Verb.TheVariants as verbs
use Rattle.expr_grammar.specs.Machine.{State, tails, arguments, behind_verb, value_place, apply, ended, may_end, map_some, take_operand, take_other, settle, finish}
use Rattle.expr_grammar.specs.Scopes.{Scope}
use Rattle.expr_steps.specs.declared.expected.Expected.{Expected}
use Rattle.expr_steps.specs.declared.expected.Expected.TheVariants as expect
use Rattle.expr_steps.specs.declared.expected.Reduction.{Reduction}
use Rattle.expr_steps.specs.declared.expected.Reduction.TheVariants as reduction
use Rattle.expr_steps.specs.declared.moves.Move.{Move}
use Rattle.expr_steps.specs.declared.moves.Move.TheVariants as moves
use Rattle.expr_steps.specs.declared.moves.Accepted.{Accepted}
use Rattle.expr_steps.specs.declared.moves.Accepted.TheVariants.{Operand, Other}
use Rattle.expr_steps.specs.declared.step.Place.{Place}

abbrev pub action_of : Reduction → Action
action_of (reduction.Unary op) = act.Unary op
action_of (reduction.Binary op) = act.Binary op
action_of reduction.Pick = act.Pick
action_of reduction.Get = act.Get
action_of reduction.Alive = act.Alive
action_of reduction.Has = act.Has
action_of reduction.Same = act.Same
action_of reduction.On = act.On
action_of reduction.NoParts = act.NoParts
action_of reduction.Value = act.Value
action_of reduction.Join = act.Join
action_of reduction.Create = act.Create
action_of reduction.Destroy = act.Destroy
action_of (reduction.Change c) = act.Change c
action_of (reduction.Turn t) = act.Turn t
action_of reduction.Instantiate = act.Instantiate

-- the symbol that an expected thing stands for; the first one of operators of several levels
abbrev pub symbol_of : Expected → Symbol
symbol_of (expect.Level level depth) = wait.Level level depth
symbol_of (expect.Operators level count depth) = wait.Tail level depth
symbol_of (expect.Named variable ty call depth) = wait.Named variable ty call depth
symbol_of expect.Close = wait.Close
symbol_of expect.Comma = wait.Comma
symbol_of expect.Dot = wait.Dot
symbol_of expect.Becomes = wait.Becomes
symbol_of (expect.Field ty role) = wait.Field ty role
symbol_of (expect.TypeField role) = wait.TypeField role
symbol_of (expect.Ref made) = wait.Ref made
symbol_of (expect.NamedRef plain ty) = wait.NamedRef plain ty
symbol_of (expect.Colon index) = wait.Colon index
symbol_of (expect.Version index) = wait.Version index
symbol_of (expect.Type role) = wait.Type role
symbol_of expect.Verb = wait.Verb
symbol_of expect.New = wait.New
symbol_of expect.From = wait.From
symbol_of expect.With = wait.With
symbol_of (expect.Part role) = wait.Part role
symbol_of (expect.Parts used) = wait.Parts used
symbol_of (expect.MoreParts used) = wait.MoreParts used
symbol_of (expect.Values ty) = wait.Values ty
symbol_of (expect.MoreValues ty at) = wait.MoreValues ty at
symbol_of (expect.Reduce r) = wait.Do (action_of r)

-- the tails of `count` levels from `level` on
abbrev pub tails_from : ℕ → ℕ → ℕ → List Symbol
tails_from zero level depth = []
tails_from (suc count) level depth = wait.Tail level depth ∷ tails_from count (level + 1) depth

-- an expected thing before others, as symbols
abbrev pub before : Expected → List Symbol → List Symbol
before (expect.Operators level count depth) below = tails_from count level depth ++ below
before e below = symbol_of e ∷ below

abbrev pub symbols : List Expected → List Symbol
symbols [] = []
symbols (e ∷ es) = before e (symbols es)

-- ---- what a token leaves

-- what an operator leaves of the tails of `count` levels from `level` on
abbrev pub take_tails : ℕ → ℕ → ℕ → Option (BinaryOp × ℕ) → Option (List Symbol)
take_tails count level depth None = None
take_tails count level depth (Some (op, at)) =
    if nat_lt at level then None
    else if nat_le count (at - level) then None
    else Some (wait.Level at depth ∷ wait.Do (act.Binary op) ∷ (if nat_eq at 2 then tails_from (count - (at - level) - 1) (at + 1) depth else tails_from (count - (at - level)) at depth))

abbrev pub operator_seen : Token → Option (BinaryOp × ℕ)
operator_seen (sign g) = operator_of g
operator_seen (number n) = None
operator_seen (word name) = None
operator_seen bad = None

-- what a token leaves of an expected thing that is no expression
abbrev pub take_rest : Scope → ℕ → Expected → Token → Option (List Symbol)
take_rest s limit (expect.Operators level count depth) t = take_tails count level depth (operator_seen t)
take_rest s limit e t = take_other s limit (symbol_of e) t

-- what a token leaves of an expected thing
abbrev pub takes : Scope → ℕ → Expected → Token → Option (List Symbol)
takes s limit (expect.Level level depth) t = map_some (λ new. new ++ tails level depth) (take_operand s limit depth t)
takes s limit e t = take_rest s limit e t

-- `true` if an expected thing may be left out; and what it builds then
abbrev pub ends : Expected → Bool
ends (expect.Operators level count depth) = true
ends e = may_end (symbol_of e)

abbrev pub reduced : Expected → List Built → List Built
reduced (expect.Operators level count depth) bs = bs
reduced e bs = ended (symbol_of e) bs

-- `true` if an expected thing ends before a token by its kind alone: a reduction, or operators of other levels
abbrev pub is_passed : Expected → Token → Bool
is_passed (expect.Reduce r) t = true
is_passed (expect.Operators level count depth) t = not (is_some (take_tails count level depth (operator_seen t)))
is_passed e t = false

-- what the first expected things build as they end
abbrev pub reduced_first : ℕ → List Expected → List Built → List Built
reduced_first zero es bs = bs
reduced_first (suc k) [] bs = bs
reduced_first (suc k) (e ∷ es) bs = reduced_first k es (reduced e bs)

-- ---- what a move leaves: an action that is done at once, and symbols

abbrev pub action_at : Move → Option Action
action_at (moves.Number z) = Some (act.Number z)
action_at (moves.Own ty i) = Some (act.Own ty i)
action_at (moves.Ref r) = Some (act.Ref r)
action_at (moves.Type ty) = Some (act.Type ty)
action_at (moves.Field ty i) = Some (act.Field ty i)
action_at (moves.New name) = Some (act.New name)
action_at (moves.Assigned ty i is_ref) = Some (act.Field ty i)
action_at (moves.Part ty fields) = Some (act.Part ty)
action_at (moves.Joined ty fields used) = Some (act.Part ty)
action_at _ = None

abbrev pub values_if : TypeId → Bool → List Symbol → List Symbol
values_if ty fields later = if fields then wait.Values ty ∷ later else later

abbrev pub rest_of : Move → List Symbol
rest_of (moves.One e) = before e []
rest_of (moves.Group depth) = wait.Level 5 depth ∷ wait.Close ∷ []
rest_of (moves.Signed op depth) = wait.Level 0 depth ∷ wait.Do (act.Unary op) ∷ []
rest_of (moves.Operator op level from count depth) = wait.Level level depth ∷ wait.Do (act.Binary op) ∷ tails_from count from depth
rest_of (moves.Arguments call depth) = arguments call depth
rest_of (moves.Owner ty role) = wait.Dot ∷ wait.Field ty role ∷ []
rest_of (moves.Assigned ty i is_ref) = wait.Becomes ∷ value_place false is_ref ∷ []
rest_of (moves.Behind verb) = behind_verb verb
rest_of (moves.Part ty fields) = values_if ty fields []
rest_of (moves.Joined ty fields used) = values_if ty fields (wait.Do act.Join ∷ wait.MoreParts used ∷ [])
rest_of (moves.Value ty is_ref next) = value_place true is_ref ∷ wait.Do act.Value ∷ wait.MoreValues ty next ∷ []
rest_of _ = []

-- the same as expected things
abbrev pub some_operators : ℕ → ℕ → ℕ → List Expected
some_operators level count depth = if nat_eq count 0 then [] else expect.Operators level count depth ∷ []

abbrev pub things_in : Call → ℕ → List Expected
things_in (calls.Two op) d = expect.Level 5 d ∷ expect.Comma ∷ expect.Level 5 d ∷ expect.Close ∷ expect.Reduce (reduction.Binary op) ∷ []
things_in calls.Pick d =
    expect.Level 5 d ∷ expect.Comma ∷ expect.Level 5 d ∷ expect.Comma ∷ expect.Level 5 d ∷ expect.Close ∷ expect.Reduce reduction.Pick ∷ []
things_in calls.Get d = expect.Ref false ∷ expect.Comma ∷ expect.TypeField Looked ∷ expect.Close ∷ expect.Reduce reduction.Get ∷ []
things_in calls.Alive d = expect.Ref false ∷ expect.Close ∷ expect.Reduce reduction.Alive ∷ []
things_in calls.Has d = expect.Ref false ∷ expect.Comma ∷ expect.Type Asked ∷ expect.Close ∷ expect.Reduce reduction.Has ∷ []
things_in calls.Same d = expect.Ref false ∷ expect.Comma ∷ expect.Ref false ∷ expect.Close ∷ expect.Reduce reduction.Same ∷ []
things_in calls.On d = expect.Type Own ∷ expect.Close ∷ expect.Reduce reduction.On ∷ []

abbrev pub things_behind : Verb → List Expected
things_behind verbs.Create = expect.New ∷ expect.Reduce reduction.NoParts ∷ expect.With ∷ expect.Reduce reduction.Create ∷ []
things_behind verbs.Destroy = expect.Ref true ∷ expect.Reduce reduction.Destroy ∷ []
things_behind (verbs.Change c) = expect.Ref true ∷ expect.Part (part_use c) ∷ expect.Reduce (reduction.Change c) ∷ []
things_behind (verbs.Turn t) = expect.Ref true ∷ expect.Type (turn_use t) ∷ expect.Reduce (reduction.Turn t) ∷ []
things_behind verbs.Instantiate = expect.New ∷ expect.From ∷ expect.Ref true ∷ expect.Reduce reduction.Instantiate ∷ []

abbrev pub value_thing : Bool → Bool → Expected
value_thing made is_ref = if is_ref then expect.Ref made else expect.Level 5 0

abbrev pub values_things : TypeId → Bool → List Expected
values_things ty fields = if fields then expect.Values ty ∷ [] else []

abbrev pub things_of : Move → List Expected
things_of (moves.One e) = e ∷ []
things_of (moves.Group depth) = expect.Level 5 depth ∷ expect.Close ∷ []
things_of (moves.Signed op depth) = expect.Level 0 depth ∷ expect.Reduce (reduction.Unary op) ∷ []
things_of (moves.Operator op level from count depth) = expect.Level level depth ∷ expect.Reduce (reduction.Binary op) ∷ some_operators from count depth
things_of (moves.Arguments call depth) = things_in call depth
things_of (moves.Owner ty role) = expect.Dot ∷ expect.Field ty role ∷ []
things_of (moves.Assigned ty i is_ref) = expect.Becomes ∷ value_thing false is_ref ∷ []
things_of (moves.Behind verb) = things_behind verb
things_of (moves.Part ty fields) = values_things ty fields
things_of (moves.Joined ty fields used) = values_things ty fields ++ expect.Reduce reduction.Join ∷ expect.MoreParts used ∷ []
things_of (moves.Value ty is_ref next) = value_thing true is_ref ∷ expect.Reduce reduction.Value ∷ expect.MoreValues ty next ∷ []
things_of _ = []

abbrev pub acted : Option Action → List Symbol → List Symbol
acted None waits = waits
acted (Some a) waits = wait.Do a ∷ waits

abbrev pub done : Option Action → List Built → List Built
done None bs = bs
done (Some a) bs = apply a bs

abbrev pub left : Move → List Symbol
left m = acted (action_at m) (rest_of m)

abbrev pub left_of : Accepted → List Symbol
left_of (Operand m level depth) = left m ++ tails level depth
left_of (Other m) = left m

abbrev pub move_of : Accepted → Move
move_of (Operand m level depth) = m
move_of (Other m) = m

abbrev pub expected_of : Accepted → List Symbol
expected_of (Operand m level depth) = rest_of m ++ tails level depth
expected_of (Other m) = rest_of m

-- ---- steps

-- where a token is accepted: the expected thing that accepts it, how many others end before it, and what it leaves
abbrev pub placed : Option Place → List Expected → List Built → Option State
placed None es bs = None
placed (Some p) es bs = Some (record { waits = left_of p.accepted ++ symbols (drop (suc p.above) es); built = reduced_first p.above es bs })

-- two states that take the same tokens and end alike
pub record Agrees (a b : State) : Type 0 where
  pub settles : (s : Scope) (limit : ℕ) (t : Token) → settle s limit a.waits a.built t ≡ settle s limit b.waits b.built t
  pub finishes : finish a.waits a.built ≡ finish b.waits b.built

-- the machine is in some state, and the parser in one that agrees with it
pub record Follows (machine : Option State) (parser : State) : Type 0 where
  pub state : State
  pub is : machine ≡ Some state
  pub agrees : Agrees state parser

-- a step that was taken follows the machine, and one that wasn't leaves all as it was
abbrev pub Took : Bool → Option State → State → State → Type 0
Took true found old new = Follows found new
Took false found old new = (found ≡ None) × (new ≡ old)

-- ---- the operand that was read last, if it is of this kind

abbrev pub top_int : List Built → Option Expr
top_int (built.Int e ∷ bs) = Some e
top_int bs = None

abbrev pub top_ref : List Built → Option RefExpr
top_ref (built.Ref r ∷ bs) = Some r
top_ref bs = None

abbrev pub top_type : List Built → Option TypeId
top_type (built.Type ty ∷ bs) = Some ty
top_type bs = None

abbrev pub top_field : List Built → Option (TypeId × ℕ)
top_field (built.Field ty i ∷ bs) = Some (ty, i)
top_field bs = None

abbrev pub top_name : List Built → Option (List ℕ)
top_name (built.Name name ∷ bs) = Some name
top_name bs = None

abbrev pub top_part : List Built → Option PartExpr
top_part (built.Part p ∷ bs) = Some p
top_part bs = None

abbrev pub top_parts : List Built → Option (List PartExpr)
top_parts (built.Parts ps ∷ bs) = Some ps
top_parts bs = None

abbrev pub top_value : List Built → Option ValueExpr
top_value (built.Int e ∷ bs) = Some (values.Int e)
top_value (built.Ref r ∷ bs) = Some (values.Ref r)
top_value bs = None

abbrev pub top_command : List Built → Option CommandText
top_command (built.Command c ∷ bs) = Some c
top_command bs = None
