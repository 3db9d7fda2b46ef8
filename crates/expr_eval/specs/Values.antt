-- The value of an expression, wrapped to 64 bits at each operation.
use Rattle.std.specs.Prelude.{ℕ, Bool, not, ◌&&◌, ◌||◌, if◌then◌else◌, ℤ, pos, neg_ℤ, ◌+ℤ◌, ◌-ℤ◌, ◌*ℤ◌, int_lt, Option, Some, None}
use Rattle.std.specs.Int.{int_wrap, int_wrapping_div}
use Rattle.std.specs.Int.RustNames.{int_rem}
use Rattle.std.specs.Ordering.{int_eq}
use Rattle.std.proofs.Common.{w64}
use Rattle.ent_types.specs.declared.entity.Entity.{Entity}
use Rattle.ent_types.specs.declared.entity.TypeId.{TypeId}
use Rattle.ent_types.specs.declared.value.Value.{Value}
use Rattle.ent_types.specs.declared.value.Value.TheVariants.{Int, Ref}
use Rattle.ent_types.specs.Fitting.{null_entity}
use Rattle.world_model.specs.Part.{same_entity}
use Rattle.expr_trees.specs.declared.tree.Expr.{Expr, fold-Expr}
use Rattle.expr_trees.specs.declared.tree.Expr.TheOpen.{Expr-F}
use Rattle.expr_trees.specs.declared.tree.RefExpr.{RefExpr}
use Rattle.expr_trees.specs.declared.tree.RefExpr.TheVariants as refs
use Rattle.expr_trees.specs.declared.tree.Variable.{Variable}
use Rattle.expr_trees.specs.declared.tree.Variable.TheVariants.{Frame, Chunk, Row, Index, Version, N}
use Rattle.expr_trees.specs.declared.tree.UnaryOp.{UnaryOp}
use Rattle.expr_trees.specs.declared.tree.UnaryOp.TheVariants as unary
use Rattle.expr_trees.specs.declared.tree.BinaryOp.{BinaryOp}
use Rattle.expr_trees.specs.declared.tree.BinaryOp.TheVariants as binary

-- what an expression sees of its own row, and of where the row is visited
pub record OwnRow : Type 0 where
  pub field : TypeId → ℕ → Value
  -- the row has the type, and it isn't switched off there
  pub on : TypeId → Bool
  pub me : Entity
  pub item : ℕ
  pub row : ℕ
  pub frame : ℕ
  pub n : ℕ

-- what an expression sees of other rows
pub record OtherRows : Type 0 where
  -- a field's value, enabled or not; none where the entity isn't alive or lacks the type or the field
  pub value : Entity → TypeId → ℕ → Option Value
  pub has : Entity → TypeId → Bool
  pub alive : Entity → Bool

-- the number or the reference of a value; a value of the other kind counts as 0 or null
abbrev pub number : Value → ℤ
number (Int z) = z
number (Ref e) = pos 0

abbrev pub entity : Value → Entity
entity (Int z) = null_entity
entity (Ref e) = e

abbrev pub number_or_zero : Option Value → ℤ
number_or_zero None = pos 0
number_or_zero (Some v) = number v

abbrev pub truth : Bool → ℤ
truth b = if b then pos 1 else pos 0

-- anything but 0 is true
abbrev pub is_true : ℤ → Bool
is_true z = not (int_eq z (pos 0))

-- a reference; a made name, which no job on a row meets, counts as null
abbrev pub value_ref : OwnRow → RefExpr → Entity
value_ref own refs.Null = null_entity
value_ref own refs.Me = own.me
value_ref own (refs.Made k) = null_entity
value_ref own (refs.Own ty i) = entity (own.field ty i)
value_ref own (refs.Entity e) = e

abbrev pub value_variable : OwnRow → Variable → ℤ
value_variable own Frame = pos own.frame
value_variable own Chunk = pos own.item
value_variable own Row = pos own.row
value_variable own Index = pos own.me.index
value_variable own Version = pos own.me.version
value_variable own N = pos own.n

abbrev pub value_unary : UnaryOp → ℤ → ℤ
value_unary unary.Minus a = int_wrap w64 (neg_ℤ a)
value_unary unary.Not a = truth (not (is_true a))

-- toward zero, and 0 where the divisor is 0; the least number divided by -1 is itself
abbrev pub quotient : ℤ → ℤ → ℤ
quotient a b = if int_eq b (pos 0) then pos 0 else int_wrapping_div w64 a b

abbrev pub rest : ℤ → ℤ → ℤ
rest a b = if int_eq b (pos 0) then pos 0 else int_rem a b

abbrev pub value_binary : BinaryOp → ℤ → ℤ → ℤ
value_binary binary.Or a b = truth (is_true a || is_true b)
value_binary binary.And a b = truth (is_true a && is_true b)
value_binary binary.Equal a b = truth (int_eq a b)
value_binary binary.NotEqual a b = truth (not (int_eq a b))
value_binary binary.Less a b = truth (int_lt a b)
value_binary binary.LessEqual a b = truth (not (int_lt b a))
value_binary binary.Greater a b = truth (int_lt b a)
value_binary binary.GreaterEqual a b = truth (not (int_lt a b))
value_binary binary.Plus a b = int_wrap w64 (a +ℤ b)
value_binary binary.Minus a b = int_wrap w64 (a -ℤ b)
value_binary binary.Times a b = int_wrap w64 (a *ℤ b)
value_binary binary.Divide a b = quotient a b
value_binary binary.Rest a b = rest a b
value_binary binary.Min a b = if int_lt b a then b else a
value_binary binary.Max a b = if int_lt a b then b else a

-- one level of an expression, from the values of the expressions in it
abbrev pub value_step : OwnRow → OtherRows → Expr-F ℤ → ℤ
value_step own others (Expr-F.Number z) = z
value_step own others (Expr-F.Variable v) = value_variable own v
value_step own others (Expr-F.Own ty i) = number (own.field ty i)
value_step own others (Expr-F.Unary op a) = value_unary op a
value_step own others (Expr-F.Binary op a b) = value_binary op a b
value_step own others (Expr-F.Pick c a b) = if is_true c then a else b
value_step own others (Expr-F.Get r ty i) = number_or_zero (others.value (value_ref own r) ty i)
value_step own others (Expr-F.Alive r) = truth (others.alive (value_ref own r))
value_step own others (Expr-F.Has r ty) = truth (others.has (value_ref own r) ty)
value_step own others (Expr-F.Same r q) = truth (same_entity (value_ref own r) (value_ref own q))
value_step own others (Expr-F.On ty) = truth (own.on ty)

-- the value of an expression
abbrev pub value : OwnRow → OtherRows → Expr → ℤ
value own others = fold-Expr ℤ (value_step own others)
