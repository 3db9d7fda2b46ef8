-- A machine that reads tokens one by one. It has a stack of the symbols that it waits for, and a stack of the trees that it built.
use Rattle.std.specs.Prelude.{ℕ, zero, suc, ◌+◌, ◌^◌, List, [], ◌∷◌, ◌++◌, Bool, true, false, not, ◌&&◌, ◌||◌, nat_lt, nat_eq, Option, Some, None, if◌then◌else◌, is_some, pos, map, drop, codes}
use Rattle.ent_types.specs.declared.entity.TypeId.{TypeId}
use Rattle.ent_types.specs.Types.{same_name}
use Rattle.ent_types.specs.TypeSets.{with_type}
use Rattle.expr_tokens.specs.Tokens.{Token, word, number, sign, bad}
use Rattle.expr_tokens.specs.declared.sign.Sign.{Sign}
use Rattle.expr_tokens.specs.declared.sign.Sign.TheVariants.{Open, Close, Comma, Dot, Colon, Assign as Becomes}
use Rattle.expr_grammar.specs.declared.symbol.Symbol.{Symbol}
use Rattle.expr_grammar.specs.declared.symbol.Symbol.TheVariants as wait
use Rattle.expr_grammar.specs.declared.symbol.Action.{Action}
use Rattle.expr_grammar.specs.declared.symbol.Action.TheVariants as act
use Rattle.expr_grammar.specs.declared.symbol.Built.{Built}
use Rattle.expr_grammar.specs.declared.symbol.Built.TheVariants as built
use Rattle.expr_trees.specs.declared.tree.Expr.TheVariants as exprs
use Rattle.expr_trees.specs.declared.tree.RefExpr.{RefExpr}
use Rattle.expr_trees.specs.declared.tree.RefExpr.TheVariants as refs
use Rattle.expr_trees.specs.declared.tree.Variable.{Variable}
use Rattle.expr_trees.specs.declared.tree.UnaryOp.{UnaryOp}
use Rattle.expr_trees.specs.declared.tree.BinaryOp.{BinaryOp}
use Rattle.expr_grammar.specs.declared.words.Call.{Call}
use Rattle.expr_grammar.specs.declared.words.Call.TheVariants as calls
use Rattle.expr_grammar.specs.declared.words.FieldUse.{FieldUse}
use Rattle.expr_grammar.specs.declared.words.FieldUse.TheVariants.{Number as NumberField, Entity as EntityField, Looked, Assigned}
use Rattle.expr_grammar.specs.declared.words.TypeUse.{TypeUse}
use Rattle.expr_grammar.specs.declared.words.TypeUse.TheVariants.{Asked, Own, Added}
use Rattle.expr_grammar.specs.declared.words.Verb.{Verb}
use Rattle.expr_grammar.specs.declared.words.Verb.TheVariants as verbs
use Rattle.expr_grammar.specs.declared.words.Change.TheVariants as changes
use Rattle.expr_grammar.specs.declared.words.Turn.TheVariants as turns
use Rattle.expr_trees.specs.declared.tree.ValueExpr.{ValueExpr}
use Rattle.expr_trees.specs.declared.tree.ValueExpr.TheVariants as values
use Rattle.expr_trees.specs.declared.tree.CommandText.TheVariants as commands
use Rattle.expr_grammar.specs.Fitting.{sign_of, operator_of, associates, part_use, turn_use}
use Rattle.expr_grammar.specs.Meaning.{changed, turned}
use Rattle.expr_grammar.specs.Scopes.{Scope}

-- the tails of the levels below a level
abbrev pub tails : ℕ → ℕ → List Symbol
tails zero depth = []
tails (suc level) depth = tails level depth ++ wait.Tail level depth ∷ []

abbrev pub when : {A : Type 0} → Bool → A → Option A
when true x = Some x
when false x = None

-- the type of this name, if it passes the test
abbrev pub kept : (TypeId → Bool) → Option TypeId → Option TypeId
kept test None = None
kept test (Some ty) = when (test ty) ty

abbrev pub field_type : Scope → FieldUse → List ℕ → Option TypeId
field_type s role name = kept (s.has_field role) (s.find name)

abbrev pub type_by : Scope → TypeUse → List ℕ → Option TypeId
type_by s role name = kept (s.allows role) (s.find name)

-- what follows the opening parenthesis of a call
abbrev pub arguments : Call → ℕ → List Symbol
arguments (calls.Two op) d = wait.Level 5 d ∷ wait.Comma ∷ wait.Level 5 d ∷ wait.Close ∷ wait.Do (act.Binary op) ∷ []
arguments calls.Pick d =
    wait.Level 5 d ∷ wait.Comma ∷ wait.Level 5 d ∷ wait.Comma ∷ wait.Level 5 d ∷ wait.Close ∷ wait.Do act.Pick ∷ []
arguments calls.Get d = wait.Ref false ∷ wait.Comma ∷ wait.TypeField Looked ∷ wait.Close ∷ wait.Do act.Get ∷ []
arguments calls.Alive d = wait.Ref false ∷ wait.Close ∷ wait.Do act.Alive ∷ []
arguments calls.Has d = wait.Ref false ∷ wait.Comma ∷ wait.Type Asked ∷ wait.Close ∷ wait.Do act.Has ∷ []
arguments calls.Same d = wait.Ref false ∷ wait.Comma ∷ wait.Ref false ∷ wait.Close ∷ wait.Do act.Same ∷ []
arguments calls.On d = wait.Type Own ∷ wait.Close ∷ wait.Do act.On ∷ []

-- a value by the field's kind; `made` says whether a made name fits
abbrev pub value_place : Bool → Bool → Symbol
value_place made true = wait.Ref made
value_place made false = wait.Level 5 0

-- what follows a field's name
abbrev pub behind_field : Scope → FieldUse → TypeId → ℕ → List Symbol
behind_field s NumberField ty i = wait.Do (act.Own ty i) ∷ []
behind_field s EntityField ty i = wait.Do (act.Ref (refs.Own ty i)) ∷ []
behind_field s Looked ty i = wait.Do (act.Field ty i) ∷ []
behind_field s Assigned ty i = wait.Do (act.Field ty i) ∷ wait.Becomes ∷ value_place false (s.is_ref ty i) ∷ []

-- the symbols that a token leaves instead of a symbol, if it may begin what the symbol stands for
abbrev pub map_some : {A B : Type 0} → (A → B) → Option A → Option B
map_some f None = None
map_some f (Some x) = Some (f x)

abbrev pub begins_group : ℕ → ℕ → Option (List Symbol)
begins_group limit d = when (nat_lt d limit) (wait.Level 5 (suc d) ∷ wait.Close ∷ [])

abbrev pub begins_signed : ℕ → ℕ → Option UnaryOp → Option (List Symbol)
begins_signed limit d None = None
begins_signed limit d (Some op) = when (nat_lt d limit) (wait.Level 0 (suc d) ∷ wait.Do (act.Unary op) ∷ [])

abbrev pub begins_named : ℕ → ℕ → Option Variable → Option TypeId → Option Call → Option (List Symbol)
begins_named limit d v ty call =
    when ((is_some v || is_some ty) || (is_some call && nat_lt d limit)) (wait.Named v ty call d ∷ [])

abbrev pub begins_sign : ℕ → ℕ → Sign → Option (List Symbol)
begins_sign limit d Open = begins_group limit d
begins_sign limit d s = begins_signed limit d (sign_of s)

abbrev pub take_operand : Scope → ℕ → ℕ → Token → Option (List Symbol)
take_operand s limit d (number n) = when (nat_lt n (2 ^ 63)) (wait.Do (act.Number (pos n)) ∷ [])
take_operand s limit d (sign g) = begins_sign limit d g
take_operand s limit d (word name) = begins_named limit d (s.variable name) (field_type s NumberField name) (s.call name)
take_operand s limit d bad = None

abbrev pub take_operator : ℕ → ℕ → Option (BinaryOp × ℕ) → Option (List Symbol)
take_operator level d None = None
take_operator level d (Some (op, at)) =
    when (nat_eq at level) (wait.Level level d ∷ wait.Do (act.Binary op) ∷ (if associates level then wait.Tail level d ∷ [] else []))

abbrev pub take_call : ℕ → ℕ → Option Call → Option (List Symbol)
take_call limit d None = None
take_call limit d (Some c) = when (nat_lt d limit) (arguments c (suc d))

abbrev pub take_named : ℕ → ℕ → Option TypeId → Option Call → Sign → Option (List Symbol)
take_named limit d ty call Dot = map_some (λ t. wait.Field t NumberField ∷ []) ty
take_named limit d ty call Open = take_call limit d call
take_named limit d ty call g = None

abbrev pub begins_ref : Option RefExpr → Option TypeId → Option (List Symbol)
begins_ref plain ty = when (is_some plain || is_some ty) (wait.NamedRef plain ty ∷ [])

-- the word that begins a command
abbrev pub verb_of : List ℕ → Option Verb
verb_of name =
    if same_name name (codes "create") then Some verbs.Create
    else if same_name name (codes "destroy") then Some verbs.Destroy
    else if same_name name (codes "add") then Some (verbs.Change changes.Add)
    else if same_name name (codes "set") then Some (verbs.Change changes.Set)
    else if same_name name (codes "set_shared") then Some (verbs.Change changes.SetShared)
    else if same_name name (codes "remove") then Some (verbs.Turn turns.Remove)
    else if same_name name (codes "enable") then Some (verbs.Turn turns.Enable)
    else if same_name name (codes "disable") then Some (verbs.Turn turns.Disable)
    else if same_name name (codes "instantiate") then Some verbs.Instantiate
    else None

-- what follows the word of a command
abbrev pub behind_verb : Verb → List Symbol
behind_verb verbs.Create = wait.New ∷ wait.Do act.NoParts ∷ wait.With ∷ wait.Do act.Create ∷ []
behind_verb verbs.Destroy = wait.Ref true ∷ wait.Do act.Destroy ∷ []
behind_verb (verbs.Change c) = wait.Ref true ∷ wait.Part (part_use c) ∷ wait.Do (act.Change c) ∷ []
behind_verb (verbs.Turn t) = wait.Ref true ∷ wait.Type (turn_use t) ∷ wait.Do (act.Turn t) ∷ []
behind_verb verbs.Instantiate = wait.New ∷ wait.From ∷ wait.Ref true ∷ wait.Do act.Instantiate ∷ []

-- whether the command has a type to name, where it names one
abbrev pub may_begin : Scope → Verb → Bool
may_begin s verbs.Create = true
may_begin s verbs.Destroy = true
may_begin s (verbs.Change c) = s.has_type (part_use c) []
may_begin s (verbs.Turn t) = s.has_type (turn_use t) []
may_begin s verbs.Instantiate = true

abbrev pub begins_verb : Scope → Option Verb → Option (List Symbol)
begins_verb s None = None
begins_verb s (Some v) = when (may_begin s v) (behind_verb v)

-- the types of a set
abbrev pub ids : List ℕ → List TypeId
ids set = map (λ (n : ℕ). record { 0 = n }) set

-- whether the field at a place is a ref field, if there is one
abbrev pub first_of : List Bool → Option Bool
first_of [] = None
first_of (k ∷ ks) = Some k

abbrev pub kind_at : List Bool → ℕ → Option Bool
kind_at kinds at = first_of (drop at kinds)

-- what follows the type of a part
abbrev pub values_of : TypeId → Option Bool → List Symbol
values_of ty None = []
values_of ty (Some k) = wait.Values ty ∷ []

abbrev pub part_places : Scope → TypeId → List Symbol
part_places s ty = wait.Do (act.Part ty) ∷ values_of ty (kind_at (s.refs ty) 0)

-- the value of a field of a part, and the values after it
abbrev pub takes_value : TypeId → ℕ → Option Bool → Option (List Symbol)
takes_value ty at kind = map_some (λ k. value_place true k ∷ wait.Do act.Value ∷ wait.MoreValues ty (at + 1) ∷ []) kind

-- the end of the values of a part
abbrev pub takes_no_more : Option Bool → Option (List Symbol)
takes_no_more None = Some []
takes_no_more (Some k) = None

-- a type for one more part
abbrev pub type_left : Scope → List ℕ → List ℕ → Option TypeId
type_left s used name = kept (λ ty. s.allows Added ty && not (s.holds (ids used) ty)) (s.find name)

abbrev pub joined_part : Scope → List ℕ → TypeId → List Symbol
joined_part s used ty = part_places s ty ++ wait.Do act.Join ∷ wait.MoreParts (with_type used ty.0) ∷ []

abbrev pub take_sign : Scope → Symbol → Sign → Option (List Symbol)
take_sign s wait.Close Close = Some []
take_sign s wait.Comma Comma = Some []
take_sign s wait.Dot Dot = Some []
take_sign s wait.Becomes Becomes = Some []
take_sign s (wait.NamedRef plain ty) Dot = map_some (λ t. wait.Field t EntityField ∷ []) ty
take_sign s (wait.Colon index) Colon = Some (wait.Version index ∷ [])
take_sign s (wait.Values ty) Open = takes_value ty 0 (kind_at (s.refs ty) 0)
take_sign s (wait.MoreValues ty at) Comma = takes_value ty at (kind_at (s.refs ty) at)
take_sign s (wait.MoreValues ty at) Close = takes_no_more (kind_at (s.refs ty) at)
take_sign s (wait.MoreParts used) Comma = when (s.has_type Added (ids used)) (wait.Parts used ∷ [])
take_sign s symbol g = None

abbrev pub take_number : Symbol → ℕ → Option (List Symbol)
take_number (wait.Ref made) n = when (nat_lt n (2 ^ 32)) (wait.Colon n ∷ [])
take_number (wait.Version index) n =
    when (nat_lt n (2 ^ 32)) (wait.Do (act.Ref (refs.Entity (record { index = index; version = n }))) ∷ [])
take_number symbol n = None

abbrev pub take_word : Scope → Symbol → List ℕ → Option (List Symbol)
take_word s (wait.Field ty role) name = map_some (behind_field s role ty) (s.field role ty name)
take_word s (wait.TypeField role) name = map_some (λ ty. wait.Dot ∷ wait.Field ty role ∷ []) (field_type s role name)
take_word s (wait.Ref made) name = begins_ref (s.reference made name) (field_type s EntityField name)
take_word s (wait.Type role) name = map_some (λ ty. wait.Do (act.Type ty) ∷ []) (type_by s role name)
take_word s wait.Verb name = begins_verb s (verb_of name)
take_word s wait.New name = when (s.is_new name) (wait.Do (act.New name) ∷ [])
take_word s wait.From name = when (same_name name (codes "from")) []
take_word s wait.With name = when (same_name name (codes "with") && s.has_type Added []) (wait.Parts [] ∷ [])
take_word s (wait.Part role) name = map_some (part_places s) (type_by s role name)
take_word s (wait.Parts used) name = map_some (joined_part s used) (type_left s used name)
take_word s symbol name = None

abbrev pub take_other : Scope → ℕ → Symbol → Token → Option (List Symbol)
take_other s limit (wait.Tail level d) (sign g) = take_operator level d (operator_of g)
take_other s limit (wait.Named v ty call d) (sign g) = take_named limit d ty call g
take_other s limit symbol (sign g) = take_sign s symbol g
take_other s limit symbol (number n) = take_number symbol n
take_other s limit symbol (word name) = take_word s symbol name
take_other s limit symbol bad = None

unfoldable pub take : Scope → ℕ → Symbol → Token → Option (List Symbol)
take s limit (wait.Level level d) t = map_some (λ new. new ++ tails level d) (take_operand s limit d t)
take s limit symbol t = take_other s limit symbol t

-- a symbol that may be left out
unfoldable pub may_end : Symbol → Bool
may_end (wait.Tail level d) = true
may_end (wait.Named v ty call d) = is_some v
may_end (wait.NamedRef plain ty) = is_some plain
may_end (wait.Do a) = true
may_end wait.With = true
may_end (wait.MoreParts used) = true
may_end symbol = false

-- one more value of the part that was built last
abbrev pub with_value : ValueExpr → List Built → List Built
with_value v (built.Part p ∷ bs) = built.Part (record { ty = p.ty; values = p.values ++ v ∷ [] }) ∷ bs
with_value v bs = []

-- what a step of building makes of what was built before
abbrev pub apply : Action → List Built → List Built
apply (act.Number n) bs = built.Int (exprs.Number n) ∷ bs
apply (act.Own ty i) bs = built.Int (exprs.Own ty i) ∷ bs
apply (act.Ref r) bs = built.Ref r ∷ bs
apply (act.Type ty) bs = built.Type ty ∷ bs
apply (act.Field ty i) bs = built.Field ty i ∷ bs
apply (act.Unary op) (built.Int e ∷ bs) = built.Int (exprs.Unary op e) ∷ bs
apply (act.Binary op) (built.Int b ∷ built.Int a ∷ bs) = built.Int (exprs.Binary op a b) ∷ bs
apply act.Pick (built.Int b ∷ built.Int a ∷ built.Int c ∷ bs) = built.Int (exprs.Pick c a b) ∷ bs
apply act.Get (built.Field ty i ∷ built.Ref r ∷ bs) = built.Int (exprs.Get r ty i) ∷ bs
apply act.Alive (built.Ref r ∷ bs) = built.Int (exprs.Alive r) ∷ bs
apply act.Has (built.Type ty ∷ built.Ref r ∷ bs) = built.Int (exprs.Has r ty) ∷ bs
apply act.Same (built.Ref q ∷ built.Ref r ∷ bs) = built.Int (exprs.Same r q) ∷ bs
apply act.On (built.Type ty ∷ bs) = built.Int (exprs.On ty) ∷ bs
apply (act.New name) bs = built.Name name ∷ bs
apply act.NoParts bs = built.Parts [] ∷ bs
apply (act.Part ty) bs = built.Part (record { ty = ty; values = [] }) ∷ bs
apply act.Value (built.Int e ∷ bs) = with_value (values.Int e) bs
apply act.Value (built.Ref r ∷ bs) = with_value (values.Ref r) bs
apply act.Join (built.Part p ∷ built.Parts ps ∷ bs) = built.Parts (ps ++ p ∷ []) ∷ bs
apply act.Create (built.Parts ps ∷ built.Name name ∷ bs) = built.Command (commands.Create name ps) ∷ bs
apply act.Destroy (built.Ref r ∷ bs) = built.Command (commands.Destroy r) ∷ bs
apply (act.Change c) (built.Part p ∷ built.Ref r ∷ bs) = built.Command (changed c r p) ∷ bs
apply (act.Turn t) (built.Type ty ∷ built.Ref r ∷ bs) = built.Command (turned t r ty) ∷ bs
apply act.Instantiate (built.Ref r ∷ built.Name name ∷ bs) = built.Command (commands.Instantiate name r) ∷ bs
apply a bs = []

abbrev pub with_variable : Option Variable → List Built → List Built
with_variable None bs = bs
with_variable (Some v) bs = built.Int (exprs.Variable v) ∷ bs

abbrev pub with_ref : Option RefExpr → List Built → List Built
with_ref None bs = bs
with_ref (Some r) bs = built.Ref r ∷ bs

-- what a symbol that ends builds
unfoldable pub ended : Symbol → List Built → List Built
ended (wait.Named v ty call d) bs = with_variable v bs
ended (wait.NamedRef plain ty) bs = with_ref plain bs
ended (wait.Do a) bs = apply a bs
ended symbol bs = bs

pub record State : Type 0 where
  pub waits : List Symbol
  pub built : List Built

abbrev pub onward : Option (List Symbol) → Bool → List Symbol → List Built → Option State → Option State
onward (Some new) ends below bs later = Some (record { waits = new ++ below; built = bs })
onward None true below bs later = later
onward None false below bs later = None

-- the first symbol that takes the token, after others that may end
unfoldable pub settle : Scope → ℕ → List Symbol → List Built → Token → Option State
settle s limit [] bs t = None
settle s limit (symbol ∷ below) bs t =
    onward (take s limit symbol t) (may_end symbol) below bs (settle s limit below (ended symbol bs) t)

unfoldable pub finish : List Symbol → List Built → Option (List Built)
finish [] bs = Some bs
finish (symbol ∷ below) bs = if may_end symbol then finish below (ended symbol bs) else None

abbrev pub go_on : Option State → (State → Option (List Built)) → Option (List Built)
go_on None f = None
go_on (Some state) f = f state

abbrev pub and_then : Option State → (State → Option State) → Option State
and_then None f = None
and_then (Some state) f = f state

-- what the tokens build, if the stack takes them all and may end then
unfoldable pub run : Scope → ℕ → List Symbol → List Built → List Token → Option (List Built)
run s limit waits bs [] = finish waits bs
run s limit waits bs (t ∷ ts) = go_on (settle s limit waits bs t) (λ state. run s limit state.waits state.built ts)

-- the machine's state after some tokens, if it takes them all
unfoldable pub steps : Scope → ℕ → State → List Token → Option State
steps s limit state [] = Some state
steps s limit state (t ∷ ts) = and_then (settle s limit state.waits state.built t) (λ next. steps s limit next ts)
