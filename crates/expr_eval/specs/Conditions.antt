-- What an expression reads.
use Rattle.std.specs.Prelude.{ℕ, Bool, true, ◌&&◌}
use Rattle.ent_types.specs.declared.entity.TypeId.{TypeId}
use Rattle.expr_trees.specs.declared.tree.Expr.{Expr, fold-Expr}
use Rattle.expr_trees.specs.declared.tree.Expr.TheOpen.{Expr-F}
use Rattle.expr_trees.specs.declared.tree.RefExpr.{RefExpr}
use Rattle.expr_trees.specs.declared.tree.RefExpr.TheVariants as refs

-- each own field that the reference names is there
abbrev pub ref_reads : (TypeId → ℕ → Bool) → RefExpr → Bool
ref_reads field refs.Null = true
ref_reads field refs.Me = true
ref_reads field (refs.Made k) = true
ref_reads field (refs.Own ty i) = field ty i
ref_reads field (refs.Entity e) = true

abbrev pub reads_step : (TypeId → ℕ → Bool) → (TypeId → Bool) → Expr-F Bool → Bool
reads_step field looked (Expr-F.Number z) = true
reads_step field looked (Expr-F.Variable v) = true
reads_step field looked (Expr-F.Own ty i) = field ty i
reads_step field looked (Expr-F.Unary op a) = a
reads_step field looked (Expr-F.Binary op a b) = a && b
reads_step field looked (Expr-F.Pick c a b) = c && (a && b)
reads_step field looked (Expr-F.Get r ty i) = ref_reads field r && looked ty
reads_step field looked (Expr-F.Alive r) = ref_reads field r
reads_step field looked (Expr-F.Has r ty) = ref_reads field r
reads_step field looked (Expr-F.Same r q) = ref_reads field r && ref_reads field q
reads_step field looked (Expr-F.On ty) = true

-- each own field that the expression names is there, and each type that it looks up may be read
abbrev pub reads : (TypeId → ℕ → Bool) → (TypeId → Bool) → Expr → Bool
reads field looked = fold-Expr Bool (reads_step field looked)
