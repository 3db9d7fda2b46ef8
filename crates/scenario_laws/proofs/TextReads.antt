-- A text reads only what its place has.
use Rattle.std.proofs.Common.{ℕ, ◌≡◌, List, [], ◌∷◌, ◌++◌, Bool, true, ◌&&◌, inl, inr, refl, ◌∙◌, subst, sym}
use Rattle.std.specs.List.{flat_map}
use Rattle.std.proofs.lemmas.Bool.{and_parts, and_from}
use Rattle.ent_types.specs.declared.entity.TypeId.{TypeId}
use Rattle.ent_types.specs.declared.type_info.FieldInfo.{FieldInfo}
use Rattle.ent_types.specs.declared.type_info.TypeInfo.{TypeInfo}
use Rattle.ent_types.specs.declared.kinds.FieldKind.{FieldKind}
use Rattle.ent_types.specs.Types.{is_ref_kind}
use Rattle.ent_types.specs.TypeLookups.{fields_at, has_column_at}
use Rattle.expr_eval.specs.Conditions.{reads, reads_step}
use Rattle.expr_trees.specs.declared.tree.Expr.{Expr}
use Rattle.expr_trees.specs.declared.tree.Expr.TheOpen.{Expr-F}
use Rattle.expr_trees.specs.declared.tree.Expr.TheFolds.{fold-roll-Expr, ind-Expr, map-Expr}
use Rattle.expr_trees.specs.declared.tree.Expr.TheViews.{roll-Expr}
use Rattle.expr_trees.specs.declared.tree.RefExpr.{RefExpr}
use Rattle.expr_trees.specs.declared.tree.RefExpr.TheVariants as refs
use Rattle.expr_trees.specs.declared.tree.ValueExpr.{ValueExpr}
use Rattle.expr_trees.specs.declared.tree.ValueExpr.TheVariants as values
use Rattle.expr_trees.specs.declared.tree.PartExpr.{PartExpr}
use Rattle.expr_trees.specs.declared.tree.CommandText.{CommandText}
use Rattle.expr_trees.specs.declared.tree.CommandText.TheVariants as texts
use Rattle.scenario_record.specs.TextNames.{Names, none_made, is_known, ref_fits, fits_step, expr_fits, value_fits, values_fit, part_fits, new_part_fits, new_parts_fit, command_fits}
use Rattle.scenario_record.specs.Uses.{Use, looked_up, in_ref, expr_step, in_expr, in_value, in_part, in_act}
use Rattle.world_model.specs.Members.{In}
use Rattle.world_laws.proofs.Members.{in_left, in_right}
use Rattle.run_laws.specs.Runnable.{Sources, ExprReads, RefReads, ValueReads, PartReads, CommandReads}
use Rattle.scenario_laws.proofs.Members.{passes, in_flattened}

-- each type that these uses look up is one of those that may be looked up
abbrev pub Looks : (ℕ → Type 0) → List Use → Type 0
Looks May us = (t i : ℕ) → In (looked_up t i) us → May t

pub looks_left : (May : ℕ → Type 0) (us vs : List Use) → Looks May (us ++ vs) → Looks May us
looks_left May us vs looks t i j = looks t i (in_left (looked_up t i) us vs j)

pub looks_right : (May : ℕ → Type 0) (us vs : List Use) → Looks May (us ++ vs) → Looks May vs
looks_right May us vs looks t i j = looks t i (in_right (looked_up t i) us vs j)

pub looks_at : {A : Type 0} (May : ℕ → Type 0) (f : A → List Use) (x : A) (xs : List A) → In x xs → Looks May (flat_map f xs) → Looks May (f x)
looks_at May f x xs here looks t i j = looks t i (in_flattened f (looked_up t i) x xs here j)

-- what a place names may be read there, if only such types are looked up
pub record Gives (names : Names) (May : ℕ → Type 0) (from : Sources) : Type 0 where
  pub own_numbers : (ty : TypeId) (i : ℕ) → names.own_number ty i ≡ true → from.own ty i ≡ true
  pub own_refs : (ty : TypeId) (i : ℕ) → names.own_ref ty i ≡ true → from.own ty i ≡ true
  pub lookups : (ty : TypeId) (i : ℕ) → names.looked_up ty i ≡ true → May ty.0 → from.others ty ≡ true

module _ (names : Names) (May : ℕ → Type 0) (from : Sources) (gives : Gives names May from) where
  pub ref_reading : (made : ℕ → Bool) (r : RefExpr) → ref_fits names made r ≡ true → RefReads from r
  ref_reading made refs.Null fits = refl
  ref_reading made refs.Me fits = refl
  ref_reading made (refs.Made k) fits = refl
  ref_reading made (refs.Own ty i) fits = gives.own_refs ty i fits
  ref_reading made (refs.Entity e) fits = refl

  -- ---- expressions

  abbrev IsReading : Expr → Type 0
  IsReading e = expr_fits names e ≡ true → Looks May (in_expr e) → ExprReads from e

  rolled : (x : Expr-F Expr)
      → (fits_step names (map-Expr Expr Bool (expr_fits names) x) ≡ true → Looks May (expr_step (map-Expr Expr (List Use) in_expr x))
      → reads_step from.own from.others (map-Expr Expr Bool (reads from.own from.others) x) ≡ true)
      → IsReading (roll-Expr x)
  rolled x step fits looks =
      fold-roll-Expr Bool (reads_step from.own from.others) x
      ∙ step (sym (fold-roll-Expr Bool (fits_step names) x) ∙ fits) (subst (Looks May) (fold-roll-Expr (List Use) expr_step x) looks)

  layer : (y : Expr-F ((e : Expr) × IsReading e)) → IsReading (roll-Expr (map-Expr ((e : Expr) × IsReading e) Expr (λ e. e.0) y))
  layer (Expr-F.Number z) = rolled (Expr-F.Number z) (λ fits looks. refl)
  layer (Expr-F.Variable v) = rolled (Expr-F.Variable v) (λ fits looks. refl)
  layer (Expr-F.Own ty i) = rolled (Expr-F.Own ty i) (λ fits looks. gives.own_numbers ty i fits)
  layer (Expr-F.Unary op a) = rolled (Expr-F.Unary op a.0) (λ fits looks. a.1 fits looks)
  layer (Expr-F.Binary op a b) = rolled (Expr-F.Binary op a.0 b.0) (λ fits looks.
      let both = and_parts (expr_fits names a.0) (expr_fits names b.0) fits in
      and_from _ _ (a.1 both.0 (looks_left May (in_expr a.0) (in_expr b.0) looks)) (b.1 both.1 (looks_right May (in_expr a.0) (in_expr b.0) looks)))
  layer (Expr-F.Pick c a b) = rolled (Expr-F.Pick c.0 a.0 b.0) (λ fits looks.
      let first = and_parts (expr_fits names c.0) (expr_fits names a.0 && expr_fits names b.0) fits in
      let both = and_parts (expr_fits names a.0) (expr_fits names b.0) first.1 in
      let rest = looks_right May (in_expr c.0) (in_expr a.0 ++ in_expr b.0) looks in
      and_from _ _ (c.1 first.0 (looks_left May (in_expr c.0) (in_expr a.0 ++ in_expr b.0) looks))
      (and_from _ _ (a.1 both.0 (looks_left May (in_expr a.0) (in_expr b.0) rest)) (b.1 both.1 (looks_right May (in_expr a.0) (in_expr b.0) rest))))
  layer (Expr-F.Get r ty i) = rolled (Expr-F.Get r ty i) (λ fits looks.
      let both = and_parts (ref_fits names none_made r) (names.looked_up ty i) fits in
      and_from _ _ (ref_reading none_made r both.0) (gives.lookups ty i both.1 (looks ty.0 i (in_right (looked_up ty.0 i) (in_ref r) (looked_up ty.0 i ∷ []) (inl refl)))))
  layer (Expr-F.Alive r) = rolled (Expr-F.Alive r) (λ fits looks. ref_reading none_made r (and_parts names.has_row (ref_fits names none_made r) fits).1)
  layer (Expr-F.Has r ty) = rolled (Expr-F.Has r ty) (λ fits looks. ref_reading none_made r (and_parts (ref_fits names none_made r) (names.asked ty) fits).0)
  layer (Expr-F.Same r q) = rolled (Expr-F.Same r q) (λ fits looks.
      let row = and_parts names.has_row (ref_fits names none_made r && ref_fits names none_made q) fits in
      let both = and_parts (ref_fits names none_made r) (ref_fits names none_made q) row.1 in
      and_from _ _ (ref_reading none_made r both.0) (ref_reading none_made q both.1))
  layer (Expr-F.On ty) = rolled (Expr-F.On ty) (λ fits looks. refl)

  pub expr_reading : (e : Expr) → IsReading e
  expr_reading = ind-Expr IsReading (λ x y is. subst (λ (z : Expr-F Expr). IsReading (roll-Expr z)) is (layer y))

  -- ---- values, parts and commands

  module _ (registry : List TypeInfo) (made : ℕ → Bool) where
    pub value_reading : (kind : FieldKind) (v : ValueExpr) → value_fits registry names made kind v ≡ true → Looks May (in_value v) → ValueReads from v
    value_reading kind (values.Int e) fits looks = expr_reading e (and_parts _ (expr_fits names e) fits).1 looks
    value_reading kind (values.Ref r) fits looks = ref_reading made r (and_parts (is_ref_kind kind) (ref_fits names made r) fits).1

    values_reading : (fs : List FieldInfo) (vs : List ValueExpr) → values_fit registry names made fs vs ≡ true → Looks May (flat_map in_value vs)
        → (v : ValueExpr) → In v vs → ValueReads from v
    values_reading fs [] fits looks v i = absurd i
    values_reading [] (w ∷ ws) fits looks v i = absurd cc
    values_reading (f ∷ fs) (w ∷ ws) fits looks v (inl e) =
        let both = and_parts (value_fits registry names made f.kind w) (values_fit registry names made fs ws) fits in
        subst (ValueReads from) (sym e) (value_reading f.kind w both.0 (looks_left May (in_value w) (flat_map in_value ws) looks))
    values_reading (f ∷ fs) (w ∷ ws) fits looks v (inr i) =
        let both = and_parts (value_fits registry names made f.kind w) (values_fit registry names made fs ws) fits in
        values_reading fs ws both.1 (looks_right May (in_value w) (flat_map in_value ws) looks) v i

    part_reading : (p : PartExpr) → part_fits registry names made p ≡ true → Looks May (in_part p) → PartReads from p
    part_reading p fits looks =
        values_reading (fields_at registry p.ty.0) p.values (and_parts (is_known registry p.ty) (values_fit registry names made (fields_at registry p.ty.0) p.values) fits).1 looks

    new_part_reading : (p : PartExpr) → new_part_fits registry names made p ≡ true → Looks May (in_part p) → PartReads from p
    new_part_reading p fits looks = part_reading p (and_parts _ (part_fits registry names made p) fits).1 looks

    pub parts_reading : (ps : List PartExpr) → new_parts_fit registry names made ps ≡ true → Looks May (flat_map in_part ps) → (p : PartExpr) → In p ps → PartReads from p
    parts_reading ps fits looks p i =
        new_part_reading p (passes (new_part_fits registry names made) p ps (and_parts _ _ fits).0 i) (looks_at May in_part p ps i looks)

    pub act_reading : (c : CommandText) → command_fits registry names made c ≡ true → Looks May (in_act c) → CommandReads from c
    act_reading (texts.Create name parts) fits looks = parts_reading parts fits looks
    act_reading (texts.Destroy r) fits looks = ref_reading made r fits
    act_reading (texts.Add r p) fits looks =
        let both = and_parts (ref_fits names made r) (new_part_fits registry names made p) fits in
        (ref_reading made r both.0, new_part_reading p both.1 (looks_right May (in_ref r) (in_part p) looks))
    act_reading (texts.Set r p) fits looks =
        let both = and_parts (ref_fits names made r) (has_column_at registry p.ty.0 && part_fits registry names made p) fits in
        (ref_reading made r both.0, part_reading p (and_parts _ (part_fits registry names made p) both.1).1 (looks_right May (in_ref r) (in_part p) looks))
    act_reading (texts.SetShared r p) fits looks =
        let both = and_parts (ref_fits names made r) _ fits in
        (ref_reading made r both.0, part_reading p (and_parts _ (part_fits registry names made p) both.1).1 (looks_right May (in_ref r) (in_part p) looks))
    act_reading (texts.Remove r ty) fits looks = ref_reading made r (and_parts (ref_fits names made r) _ fits).0
    act_reading (texts.Enable r ty) fits looks = ref_reading made r (and_parts (ref_fits names made r) _ fits).0
    act_reading (texts.Disable r ty) fits looks = ref_reading made r (and_parts (ref_fits names made r) _ fits).0
    act_reading (texts.Instantiate name r) fits looks = ref_reading made r fits
