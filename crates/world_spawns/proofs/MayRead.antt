-- If each field counts as there and each type can be read, every expression may be evaluated.
use Rattle.std.proofs.Common.{ℕ, ◌≡◌, ◌&&◌, Bool, true, refl, ap, ◌∙◌, subst}
use Rattle.ent_types.specs.declared.entity.TypeId.{TypeId}
use Rattle.expr_trees.specs.declared.tree.Expr.{Expr}
use Rattle.expr_trees.specs.declared.tree.Expr.TheOpen.{Expr-F}
use Rattle.expr_trees.specs.declared.tree.Expr.TheFolds.{fold-roll-Expr, ind-Expr, map-Expr}
use Rattle.expr_trees.specs.declared.tree.Expr.TheViews.{roll-Expr}
use Rattle.expr_trees.specs.declared.tree.RefExpr.{RefExpr}
use Rattle.expr_trees.specs.declared.tree.RefExpr.TheVariants as refs
use Rattle.expr_eval.specs.Conditions.{reads, reads_step, ref_reads}

both : (a b : Bool) → a ≡ true → b ≡ true → (a && b) ≡ true
both a b p q = ap (λ x. x && b) p ∙ q

module _ (field : TypeId → ℕ → Bool) (looked : TypeId → Bool)
    (there : (ty : TypeId) (i : ℕ) → field ty i ≡ true) (open_ : (ty : TypeId) → looked ty ≡ true) where
  pub ref_may : (r : RefExpr) → ref_reads field r ≡ true
  ref_may refs.Null = refl
  ref_may refs.Me = refl
  ref_may (refs.Made k) = refl
  ref_may (refs.Own ty i) = there ty i
  ref_may (refs.Entity e) = refl

  abbrev MayRead : Expr → Type 0
  MayRead e = reads field looked e ≡ true

  rolled : (x : Expr-F Expr) → reads_step field looked (map-Expr Expr Bool (reads field looked) x) ≡ true → MayRead (roll-Expr x)
  rolled x h = fold-roll-Expr Bool (reads_step field looked) x ∙ h

  layer : (y : Expr-F ((e : Expr) × MayRead e)) → MayRead (roll-Expr (map-Expr ((e : Expr) × MayRead e) Expr (λ e. e.0) y))
  layer (Expr-F.Number z) = rolled (Expr-F.Number z) refl
  layer (Expr-F.Variable v) = rolled (Expr-F.Variable v) refl
  layer (Expr-F.Own ty i) = rolled (Expr-F.Own ty i) (there ty i)
  layer (Expr-F.Unary op a) = rolled (Expr-F.Unary op a.0) a.1
  layer (Expr-F.Binary op a b) = rolled (Expr-F.Binary op a.0 b.0) (both _ _ a.1 b.1)
  layer (Expr-F.Pick a b c) = rolled (Expr-F.Pick a.0 b.0 c.0) (both _ _ a.1 (both _ _ b.1 c.1))
  layer (Expr-F.Get r ty i) = rolled (Expr-F.Get r ty i) (both _ _ (ref_may r) (open_ ty))
  layer (Expr-F.Alive r) = rolled (Expr-F.Alive r) (ref_may r)
  layer (Expr-F.Has r ty) = rolled (Expr-F.Has r ty) (ref_may r)
  layer (Expr-F.Same r q) = rolled (Expr-F.Same r q) (both _ _ (ref_may r) (ref_may q))
  layer (Expr-F.On ty) = rolled (Expr-F.On ty) refl

  pub may_read : (e : Expr) → MayRead e
  may_read = ind-Expr MayRead (λ x y is. subst (λ (z : Expr-F Expr). MayRead (roll-Expr z)) is (layer y))
