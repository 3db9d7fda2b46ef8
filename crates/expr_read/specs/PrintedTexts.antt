-- The text that is printed for an expression: each operand of an operator is in parentheses.
use Rattle.std.specs.Prelude.{ℕ, ℤ, pos, ◌^◌, List, [], ◌++◌, Bool, true, false, ◌&&◌, nat_lt, length, slice_index_or, codes}
use Rattle.std.specs.Fmt.{decimal, signed_decimal}
use Rattle.ent_types.specs.declared.entity.TypeId.{TypeId}
use Rattle.ent_types.specs.declared.kinds.FieldKind.TheVariants.{I32}
use Rattle.ent_types.specs.declared.type_info.TypeInfo.{TypeInfo}
use Rattle.ent_types.specs.declared.type_info.FieldInfo.{FieldInfo}
use Rattle.ent_types.specs.Names.{is_name}
use Rattle.ent_types.specs.Registries.{type_at}
use Rattle.expr_trees.specs.declared.tree.Expr.{Expr, fold-Expr}
use Rattle.expr_trees.specs.declared.tree.Expr.TheOpen.{Expr-F}
use Rattle.expr_trees.specs.declared.tree.RefExpr.{RefExpr}
use Rattle.expr_trees.specs.declared.tree.RefExpr.TheVariants as refs
use Rattle.expr_trees.specs.declared.tree.UnaryOp.{UnaryOp}
use Rattle.expr_trees.specs.declared.tree.UnaryOp.TheVariants as unary
use Rattle.expr_trees.specs.declared.tree.BinaryOp.{BinaryOp}
use Rattle.expr_trees.specs.declared.tree.BinaryOp.TheVariants as binary
use Rattle.expr_trees.specs.declared.tree.Variable.{Variable}
use Rattle.expr_trees.specs.declared.tree.Variable.TheVariants as variables
use Rattle.expr_read.specs.ScopeOf.{is_known}

-- ---- pieces

abbrev pub type_name : List TypeInfo → TypeId → List ℕ
type_name types ty = (type_at types ty.0).name

-- the field at this place; one without a name where there is none
abbrev pub field_at : List TypeInfo → TypeId → ℕ → FieldInfo
field_at types ty i = slice_index_or (type_at types ty.0).fields i (record { name = []; kind = I32 })

abbrev pub field_text : List TypeInfo → TypeId → ℕ → List ℕ
field_text types ty i = type_name types ty ++ (codes "." ++ (field_at types ty i).name)

-- no text is for a made name
abbrev pub ref_text : List TypeInfo → RefExpr → List ℕ
ref_text types refs.Null = codes "null"
ref_text types refs.Me = codes "self"
ref_text types (refs.Made k) = []
ref_text types (refs.Own ty i) = field_text types ty i
ref_text types (refs.Entity e) = decimal e.index ++ (codes ":" ++ decimal e.version)

abbrev pub variable_word : Variable → List ℕ
variable_word variables.Frame = codes "frame"
variable_word variables.Chunk = codes "chunk"
variable_word variables.Row = codes "row"
variable_word variables.Index = codes "index"
variable_word variables.Version = codes "version"
variable_word variables.N = codes "n"

-- what precedes the operand
abbrev pub sign_opening : UnaryOp → List ℕ
sign_opening unary.Minus = codes "-("
sign_opening unary.Not = codes "!("

-- what precedes the first of two operands
abbrev pub opening : BinaryOp → List ℕ
opening binary.Min = codes "min("
opening binary.Max = codes "max("
opening _ = codes "("

-- what separates two operands
abbrev pub between : BinaryOp → List ℕ
between binary.Or = codes ") || ("
between binary.And = codes ") && ("
between binary.Equal = codes ") == ("
between binary.NotEqual = codes ") != ("
between binary.Less = codes ") < ("
between binary.LessEqual = codes ") <= ("
between binary.Greater = codes ") > ("
between binary.GreaterEqual = codes ") >= ("
between binary.Plus = codes ") + ("
between binary.Minus = codes ") - ("
between binary.Times = codes ") * ("
between binary.Divide = codes ") / ("
between binary.Rest = codes ") % ("
between binary.Min = codes ", "
between binary.Max = codes ", "

-- ---- the text

abbrev pub text_step : List TypeInfo → Expr-F (List ℕ) → List ℕ
text_step types (Expr-F.Number z) = signed_decimal z
text_step types (Expr-F.Variable v) = variable_word v
text_step types (Expr-F.Own ty i) = field_text types ty i
text_step types (Expr-F.Unary op a) = sign_opening op ++ (a ++ codes ")")
text_step types (Expr-F.Binary op a b) = opening op ++ (a ++ (between op ++ (b ++ codes ")")))
text_step types (Expr-F.Pick c a b) = codes "pick(" ++ (c ++ (codes ", " ++ (a ++ (codes ", " ++ (b ++ codes ")")))))
text_step types (Expr-F.Get r ty i) = codes "get(" ++ (ref_text types r ++ (codes ", " ++ (field_text types ty i ++ codes ")")))
text_step types (Expr-F.Alive r) = codes "alive(" ++ (ref_text types r ++ codes ")")
text_step types (Expr-F.Has r ty) = codes "has(" ++ (ref_text types r ++ (codes ", " ++ (type_name types ty ++ codes ")")))
text_step types (Expr-F.Same r q) = codes "same(" ++ (ref_text types r ++ (codes ", " ++ (ref_text types q ++ codes ")")))
text_step types (Expr-F.On ty) = codes "on(" ++ (type_name types ty ++ codes ")")

abbrev pub expr_text : List TypeInfo → Expr → List ℕ
expr_text types = fold-Expr (List ℕ) (text_step types)

-- ---- tests of what an expression names

abbrev pub leaves_step : (ℤ → Bool) → (TypeId → ℕ → Bool) → (RefExpr → Bool) → (TypeId → Bool) → Expr-F Bool → Bool
leaves_step number field ref ty (Expr-F.Number z) = number z
leaves_step number field ref ty (Expr-F.Variable v) = true
leaves_step number field ref ty (Expr-F.Own t i) = field t i
leaves_step number field ref ty (Expr-F.Unary op a) = a
leaves_step number field ref ty (Expr-F.Binary op a b) = a && b
leaves_step number field ref ty (Expr-F.Pick c a b) = c && (a && b)
leaves_step number field ref ty (Expr-F.Get r t i) = ref r && field t i
leaves_step number field ref ty (Expr-F.Alive r) = ref r
leaves_step number field ref ty (Expr-F.Has r t) = ref r && ty t
leaves_step number field ref ty (Expr-F.Same r q) = ref r && ref q
leaves_step number field ref ty (Expr-F.On t) = ty t

-- whether each number, each field, each reference and each type of the expression passes
abbrev pub leaves_pass : (ℤ → Bool) → (TypeId → ℕ → Bool) → (RefExpr → Bool) → (TypeId → Bool) → Expr → Bool
leaves_pass number field ref ty = fold-Expr Bool (leaves_step number field ref ty)

-- the number is at least 0
abbrev pub is_natural : ℤ → Bool
is_natural (pos n) = true
is_natural _ = false

-- the registry has the field
abbrev pub is_field : List TypeInfo → TypeId → ℕ → Bool
is_field types ty i = is_known types ty && nat_lt i (length (type_at types ty.0).fields)

-- the reference is no made name, and the registry has its field
abbrev pub is_printable_ref : List TypeInfo → RefExpr → Bool
is_printable_ref types refs.Null = true
is_printable_ref types refs.Me = true
is_printable_ref types (refs.Made k) = false
is_printable_ref types (refs.Own ty i) = is_field types ty i
is_printable_ref types (refs.Entity e) = true

-- the registry knows the types and fields, the numbers are at least 0, and no reference is a made name
abbrev pub is_printable : List TypeInfo → Expr → Bool
is_printable types = leaves_pass is_natural (is_field types) (is_printable_ref types) (is_known types)

-- ---- what a printed expression also meets, since its numbers have a fixed width and its names are lawful

abbrev pub is_int : ℤ → Bool
is_int (pos n) = nat_lt n (2 ^ 63)
is_int _ = false

abbrev pub is_named_type : List TypeInfo → TypeId → Bool
is_named_type types ty = is_known types ty && is_name (type_name types ty)

abbrev pub is_named_field : List TypeInfo → TypeId → ℕ → Bool
is_named_field types ty i = is_field types ty i && (is_name (type_name types ty) && is_name (field_at types ty i).name)

abbrev pub is_spelled_ref : List TypeInfo → RefExpr → Bool
is_spelled_ref types refs.Null = true
is_spelled_ref types refs.Me = true
is_spelled_ref types (refs.Made k) = false
is_spelled_ref types (refs.Own ty i) = is_named_field types ty i
is_spelled_ref types (refs.Entity e) = nat_lt e.index (2 ^ 32) && nat_lt e.version (2 ^ 32)

abbrev pub is_spelled : List TypeInfo → Expr → Bool
is_spelled types = leaves_pass is_int (is_named_field types) (is_spelled_ref types) (is_named_type types)
