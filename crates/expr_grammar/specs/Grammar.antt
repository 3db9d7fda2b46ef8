-- The grammar, as concrete trees with their tokens. A tree is spelled in front of the tokens that follow it.
use Rattle.std.specs.Prelude.{ℕ, List, [], ◌∷◌, codes}
use Rattle.ent_types.specs.declared.entity.TypeId.{TypeId}
use Rattle.expr_tokens.specs.Tokens.{Token}
use Rattle.expr_tokens.specs.Tokens.{word, sign, number as numeral}
use Rattle.expr_tokens.specs.declared.sign.Sign.{Sign}
use Rattle.expr_tokens.specs.declared.sign.Sign.TheVariants.{Open, Close, Comma, Dot, Colon, Assign as Becomes}
use Rattle.expr_trees.specs.declared.tree.Variable.{Variable}
use Rattle.expr_trees.specs.declared.tree.RefExpr.{RefExpr}
use Rattle.expr_trees.specs.declared.tree.UnaryOp.{UnaryOp}
use Rattle.expr_trees.specs.declared.tree.BinaryOp.{BinaryOp}
use Rattle.expr_grammar.specs.declared.words.Change.{Change}
use Rattle.expr_grammar.specs.declared.words.Change.TheVariants.{Add, Set, SetShared}
use Rattle.expr_grammar.specs.declared.words.Turn.{Turn}
use Rattle.expr_grammar.specs.declared.words.Turn.TheVariants.{Remove, Enable, Disable}

-- What a name alone, or a name with a field, is as a reference.
pub data AfterName : Type 0 where
  -- `null`, `self` or a made name
  plain : RefExpr → AfterName
  -- "." FIELD: the name is a type
  own : List ℕ → TypeId → ℕ → AfterName

-- ref = number ":" number | NAME and what follows it
pub data Ref : Type 0 where
  entity : ℕ → ℕ → Ref
  called : List ℕ → AfterName → Ref

pub data Sort : Type 0 where
  operand : Sort
  suffix : Sort
  expr : Sort
  tail : Sort

pub data Syntax : Sort → Type 0 where
  -- unary = ("-" | "!") unary | primary
  -- primary = number | "(" expr ")" | a name and what follows it
  number : ℕ → Syntax operand
  group : Syntax expr → Syntax operand
  signed : Sign → UnaryOp → Syntax operand → Syntax operand
  named : List ℕ → Syntax suffix → Syntax operand
  -- what follows a name: nothing after a variable, "." FIELD after a type, the arguments of a call
  alone : Variable → Syntax suffix
  field : List ℕ → TypeId → ℕ → Syntax suffix
  two : BinaryOp → Syntax expr → Syntax expr → Syntax suffix
  pick : Syntax expr → Syntax expr → Syntax expr → Syntax suffix
  get : Ref → List ℕ → TypeId → List ℕ → ℕ → Syntax suffix
  alive : Ref → Syntax suffix
  has : Ref → List ℕ → TypeId → Syntax suffix
  same : Ref → Ref → Syntax suffix
  on : List ℕ → TypeId → Syntax suffix
  -- the levels of operators: an operand, and over each level a chain of the next with its tail { operator .. }
  lone : Syntax operand → Syntax expr
  chain : Syntax expr → Syntax tail → Syntax expr
  stop : Syntax tail
  more : Sign → BinaryOp → Syntax expr → Syntax tail → Syntax tail

-- value = expr | ref
pub data Value : Type 0 where
  int : Syntax expr → Value
  ref : Ref → Value

-- part = TYPE [ "(" value { "," value } ")" ]
pub record Part : Type 0 where
  pub name : List ℕ
  pub ty : TypeId
  pub values : List Value

-- assign = TYPE "." FIELD "=" ( expr | ref )
pub record AssignText : Type 0 where
  pub ty_name : List ℕ
  pub ty : TypeId
  pub field_name : List ℕ
  pub place : ℕ
  pub value : Value

-- switch = TYPE "=" expr
pub record SwitchText : Type 0 where
  pub name : List ℕ
  pub ty : TypeId
  pub value : Syntax expr

-- command
pub data Command : Type 0 where
  -- "create" NAME [ "with" part { "," part } ]
  create : List ℕ → List Part → Command
  -- "destroy" ref
  destroy : Ref → Command
  -- ( "add" | "set" | "set_shared" ) ref part
  change : Change → Ref → Part → Command
  -- ( "remove" | "enable" | "disable" ) ref TYPE
  turn : Turn → Ref → List ℕ → TypeId → Command
  -- "instantiate" NAME "from" ref
  instantiate : List ℕ → Ref → Command

-- The tokens of each.

abbrev pub spell_after_name : AfterName → List Token → List Token
spell_after_name (plain r) rest = rest
spell_after_name (own f ty i) rest = sign Dot ∷ word f ∷ rest

abbrev pub spell_ref : Ref → List Token → List Token
spell_ref (entity index version) rest = numeral index ∷ sign Colon ∷ numeral version ∷ rest
spell_ref (called name after) rest = word name ∷ spell_after_name after rest

abbrev pub spell : {s : Sort} → Syntax s → List Token → List Token
spell (number n) rest = numeral n ∷ rest
spell (group e) rest = sign Open ∷ spell e (sign Close ∷ rest)
spell (signed s op o) rest = sign s ∷ spell o rest
spell (named name after) rest = word name ∷ spell after rest
spell (alone v) rest = rest
spell (field f ty i) rest = sign Dot ∷ word f ∷ rest
spell (two op a b) rest = sign Open ∷ spell a (sign Comma ∷ spell b (sign Close ∷ rest))
spell (pick c a b) rest = sign Open ∷ spell c (sign Comma ∷ spell a (sign Comma ∷ spell b (sign Close ∷ rest)))
spell (get r t ty f i) rest = sign Open ∷ spell_ref r (sign Comma ∷ word t ∷ sign Dot ∷ word f ∷ sign Close ∷ rest)
spell (alive r) rest = sign Open ∷ spell_ref r (sign Close ∷ rest)
spell (has r t ty) rest = sign Open ∷ spell_ref r (sign Comma ∷ word t ∷ sign Close ∷ rest)
spell (same r q) rest = sign Open ∷ spell_ref r (sign Comma ∷ spell_ref q (sign Close ∷ rest))
spell (on t ty) rest = sign Open ∷ word t ∷ sign Close ∷ rest
spell (lone o) rest = spell o rest
spell (chain e t) rest = spell e (spell t rest)
spell stop rest = rest
spell (more s op e t) rest = sign s ∷ spell e (spell t rest)

abbrev pub spell_value : Value → List Token → List Token
spell_value (int e) rest = spell e rest
spell_value (ref r) rest = spell_ref r rest

abbrev pub spell_more_values : List Value → List Token → List Token
spell_more_values [] rest = rest
spell_more_values (v ∷ vs) rest = sign Comma ∷ spell_value v (spell_more_values vs rest)

abbrev pub spell_values : List Value → List Token → List Token
spell_values [] rest = rest
spell_values (v ∷ vs) rest = sign Open ∷ spell_value v (spell_more_values vs (sign Close ∷ rest))

abbrev pub spell_part : Part → List Token → List Token
spell_part p rest = word p.name ∷ spell_values p.values rest

abbrev pub spell_more_parts : List Part → List Token → List Token
spell_more_parts [] rest = rest
spell_more_parts (p ∷ ps) rest = sign Comma ∷ spell_part p (spell_more_parts ps rest)

abbrev pub spell_parts : List Part → List Token → List Token
spell_parts [] rest = rest
spell_parts (p ∷ ps) rest = word (codes "with") ∷ spell_part p (spell_more_parts ps rest)

abbrev pub spell_assign : AssignText → List Token
spell_assign a = word a.ty_name ∷ sign Dot ∷ word a.field_name ∷ sign Becomes ∷ spell_value a.value []

abbrev pub spell_switch : SwitchText → List Token
spell_switch s = word s.name ∷ sign Becomes ∷ spell s.value []

abbrev pub change_word : Change → List ℕ
change_word Add = codes "add"
change_word Set = codes "set"
change_word SetShared = codes "set_shared"

abbrev pub turn_word : Turn → List ℕ
turn_word Remove = codes "remove"
turn_word Enable = codes "enable"
turn_word Disable = codes "disable"

abbrev pub spell_command : Command → List Token
spell_command (create name parts) = word (codes "create") ∷ word name ∷ spell_parts parts []
spell_command (destroy r) = word (codes "destroy") ∷ spell_ref r []
spell_command (change c r p) = word (change_word c) ∷ spell_ref r (spell_part p [])
spell_command (turn t r name ty) = word (turn_word t) ∷ spell_ref r (word name ∷ [])
spell_command (instantiate name r) = word (codes "instantiate") ∷ word name ∷ word (codes "from") ∷ spell_ref r []
