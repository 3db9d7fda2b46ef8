-- What the texts of a system see of other rows, and texts that read from more sources.
use Rattle.std.proofs.Common.{ℕ, ℤ, ◌≡◌, ◌∙◌, ◌+◌, ◌⊎◌, inl, inr, Bool, true, ◌&&◌, cond, refl, sym, ap, ap₂, subst, List, [], ◌∷◌, map, slice_set}
use Rattle.std.proofs.lemmas.Bool.{and_parts, and_from}
use Rattle.ent_types.specs.declared.entity.Entity.{Entity}
use Rattle.ent_types.specs.declared.entity.TypeId.{TypeId}
use Rattle.ent_types.specs.declared.kinds.FieldKind.{FieldKind}
use Rattle.ent_types.specs.declared.type_info.TypeInfo.{TypeInfo}
use Rattle.ent_types.specs.declared.value.Value.{Value}
use Rattle.ent_types.specs.declared.value.Value.TheVariants.{Int}
use Rattle.ent_types.specs.Fitting.{fit}
use Rattle.ent_types.specs.TypeLookups.{field_kind_at}
use Rattle.world_model.specs.Members.{In}
use Rattle.world_model.specs.Operations.{with_values, switched}
use Rattle.world_model.specs.Row.{Cell, Row}
use Rattle.world_model.specs.World.{Home}
use Rattle.world_laws.proofs.Members.{in_append, in_map}
use Rattle.expr_eval.specs.Conditions.{reads, reads_step, ref_reads}
use Rattle.expr_eval.specs.Values.{OtherRows, OwnRow, is_true, number_or_zero, truth, value, value_binary, value_ref, value_step, value_unary}
use Rattle.expr_trees.specs.declared.tree.Expr.{Expr}
use Rattle.expr_trees.specs.declared.tree.Expr.TheOpen.{Expr-F}
use Rattle.expr_trees.specs.declared.tree.Expr.TheFolds.{fold-roll-Expr, ind-Expr, map-Expr}
use Rattle.expr_trees.specs.declared.tree.Expr.TheViews.{roll-Expr}
use Rattle.expr_trees.specs.declared.tree.RefExpr.{RefExpr}
use Rattle.expr_trees.specs.declared.tree.RefExpr.TheVariants as refs
use Rattle.expr_trees.specs.declared.tree.ValueExpr.{ValueExpr}
use Rattle.expr_trees.specs.declared.tree.ValueExpr.TheVariants as values
use Rattle.expr_trees.specs.declared.tree.PartExpr.{PartExpr}
use Rattle.expr_trees.specs.declared.tree.CommandText.{CommandText}
use Rattle.expr_trees.specs.declared.tree.CommandText.TheVariants as texts
use Rattle.scenario_record.specs.declared.record.SystemEntry.{SystemEntry}
use Rattle.run_model.specs.Job.{Assigns, Switches, Spot, Text, after_text, after_texts, fitted, own_of, texts_of}
use Rattle.run_model.specs.Query.{matches}
use Rattle.run_model.specs.Run.{rows_after}
use Rattle.run_laws.specs.Runnable.{CommandReads, ExprReads, PartReads, RefReads, Sources, SystemReads, ValueReads}

-- ---- other rows that are alike

-- what may be looked up has the same values, and the same entities are alive with the same types
pub record AreAlike (from : Sources) (o p : OtherRows) : Type 0 where
  pub value : (e : Entity) (ty : TypeId) (i : ℕ) → from.others ty ≡ true → o.value e ty i ≡ p.value e ty i
  pub has : (e : Entity) (ty : TypeId) → o.has e ty ≡ p.has e ty
  pub alive : (e : Entity) → o.alive e ≡ p.alive e

module _ (from : Sources) (o p : OtherRows) (alike : AreAlike from o p) where
  module _ (own : OwnRow) where
    abbrev IsSame : Expr → Type 0
    IsSame e = ExprReads from e → value own o e ≡ value own p e

    rolled : (x : Expr-F Expr)
        → (reads_step from.own from.others (map-Expr Expr Bool (reads from.own from.others) x) ≡ true
        → value_step own o (map-Expr Expr ℤ (value own o) x) ≡ value_step own p (map-Expr Expr ℤ (value own p) x))
        → IsSame (roll-Expr x)
    rolled x h w =
        fold-roll-Expr ℤ (value_step own o) x
        ∙ (h (sym (fold-roll-Expr Bool (reads_step from.own from.others) x) ∙ w)
        ∙ sym (fold-roll-Expr ℤ (value_step own p) x))

    layer : (y : Expr-F ((e : Expr) × IsSame e)) → IsSame (roll-Expr (map-Expr ((e : Expr) × IsSame e) Expr (λ e. e.0) y))
    layer (Expr-F.Number z) = rolled (Expr-F.Number z) (λ w. refl)
    layer (Expr-F.Variable v) = rolled (Expr-F.Variable v) (λ w. refl)
    layer (Expr-F.Own ty i) = rolled (Expr-F.Own ty i) (λ w. refl)
    layer (Expr-F.Unary op a) = rolled (Expr-F.Unary op a.0) (λ w. ap (value_unary op) (a.1 w))
    layer (Expr-F.Binary op a b) = rolled (Expr-F.Binary op a.0 b.0) (λ w.
        let both = and_parts (reads from.own from.others a.0) (reads from.own from.others b.0) w in
        ap₂ (value_binary op) (a.1 both.0) (b.1 both.1))
    layer (Expr-F.Pick c a b) = rolled (Expr-F.Pick c.0 a.0 b.0) (λ w.
        let first = and_parts (reads from.own from.others c.0) (reads from.own from.others a.0 && reads from.own from.others b.0) w in
        let both = and_parts (reads from.own from.others a.0) (reads from.own from.others b.0) first.1 in
        ap₂ (λ (t : Bool) (z : ℤ × ℤ). cond t z.0 z.1) (ap is_true (c.1 first.0)) (ap₂ (λ y z. (y, z)) (a.1 both.0) (b.1 both.1)))
    layer (Expr-F.Get r ty i) = rolled (Expr-F.Get r ty i) (λ w.
        ap number_or_zero (alike.value (value_ref own r) ty i (and_parts (ref_reads from.own r) (from.others ty) w).1))
    layer (Expr-F.Alive r) = rolled (Expr-F.Alive r) (λ w. ap truth (alike.alive (value_ref own r)))
    layer (Expr-F.Has r ty) = rolled (Expr-F.Has r ty) (λ w. ap truth (alike.has (value_ref own r) ty))
    layer (Expr-F.Same r q) = rolled (Expr-F.Same r q) (λ w. refl)
    layer (Expr-F.On ty) = rolled (Expr-F.On ty) (λ w. refl)

    pub value_alike : (e : Expr) → IsSame e
    value_alike = ind-Expr IsSame (λ x y is. subst (λ (z : Expr-F Expr). IsSame (roll-Expr z)) is (layer y))

    fitted_alike : (kind : FieldKind) (v : ValueExpr) → ValueReads from v → fitted kind own o v ≡ fitted kind own p v
    fitted_alike kind (values.Int e) w = ap (λ z. fit kind (Int z)) (value_alike e w)
    fitted_alike kind (values.Ref r) w = refl

  abbrev TextReads : Text → Type 0
  TextReads (Assigns a) = ValueReads from a.value
  TextReads (Switches w) = ExprReads from w.value

  module _ (registry : List TypeInfo) where
    text_alike : (own : OwnRow) (t : Text) → TextReads t → (cells : List Cell) → after_text registry o own t cells ≡ after_text registry p own t cells
    text_alike own (Assigns a) w cells =
        ap (λ (v : Value). with_values a.ty.0 (λ vs. slice_set vs a.field v) cells) (fitted_alike own (field_kind_at registry a.ty.0 a.field) a.value w)
    text_alike own (Switches x) w cells = ap (λ z. switched x.ty.0 (is_true z) cells) (value_alike own x.value w)

    texts_alike : (spot : Spot) (home : Home) (me : Entity) (ts : List Text) → ((t : Text) → In t ts → TextReads t) → (cells : List Cell)
        → after_texts registry o spot home me ts cells ≡ after_texts registry p spot home me ts cells
    texts_alike spot home me [] all cells = refl
    texts_alike spot home me (t ∷ ts) all cells =
        ap (after_texts registry o spot home me ts) (text_alike (own_of registry spot home me cells) t (all t (inl refl)) cells)
        ∙ texts_alike spot home me ts (λ u i. all u (inr i)) (after_text registry p (own_of registry spot home me cells) t cells)

    module _ (s : SystemEntry) (read : SystemReads from s) where
      texts_read : (t : Text) → In t (texts_of s) → TextReads t
      texts_read t i = by (in_append t (map Assigns s.set) (map Switches s.enable) i)
        where
          by : In t (map Assigns s.set) ⊎ In t (map Switches s.enable) → TextReads t
          by (inl j) = let (a, k, same) = in_map Assigns t s.set j in subst TextReads (sym same) (read.assigns a k)
          by (inr j) = let (w, k, same) = in_map Switches t s.enable j in subst TextReads (sym same) (read.switches w k)

      -- a run does the same to the rows of a block
      pub rows_alike : (frame item : ℕ) (home : Home) (place : ℕ) (rows : List Row)
          → rows_after registry s o frame item home place rows ≡ rows_after registry s p frame item home place rows
      rows_alike frame item home place [] = refl
      rows_alike frame item home place (r ∷ rs) =
          ap₂ (λ (q : Row) (qs : List Row). q ∷ qs)
          (ap (λ (cs : List Cell). record r { cells = cond (matches registry s (record { home = home; row = r })) cs r.cells })
          (texts_alike (record { frame = frame; item = item; place = place }) home r.entity (texts_of s) texts_read r.cells))
          (rows_alike frame item home (place + 1) rs)

-- ---- more sources

module _ (few many : Sources) (own : (ty : TypeId) (i : ℕ) → few.own ty i ≡ true → many.own ty i ≡ true)
    (others : (ty : TypeId) → few.others ty ≡ true → many.others ty ≡ true) where
  ref_more : (r : RefExpr) → RefReads few r → RefReads many r
  ref_more refs.Null w = refl
  ref_more refs.Me w = refl
  ref_more (refs.Made k) w = refl
  ref_more (refs.Own ty i) w = own ty i w
  ref_more (refs.Entity e) w = refl

  abbrev ReadsMore : Expr → Type 0
  ReadsMore e = ExprReads few e → ExprReads many e

  rolled_more : (x : Expr-F Expr)
      → (reads_step few.own few.others (map-Expr Expr Bool (reads few.own few.others) x) ≡ true
      → reads_step many.own many.others (map-Expr Expr Bool (reads many.own many.others) x) ≡ true)
      → ReadsMore (roll-Expr x)
  rolled_more x h w =
      fold-roll-Expr Bool (reads_step many.own many.others) x ∙ h (sym (fold-roll-Expr Bool (reads_step few.own few.others) x) ∙ w)

  layer_more : (y : Expr-F ((e : Expr) × ReadsMore e)) → ReadsMore (roll-Expr (map-Expr ((e : Expr) × ReadsMore e) Expr (λ e. e.0) y))
  layer_more (Expr-F.Number z) = rolled_more (Expr-F.Number z) (λ w. refl)
  layer_more (Expr-F.Variable v) = rolled_more (Expr-F.Variable v) (λ w. refl)
  layer_more (Expr-F.Own ty i) = rolled_more (Expr-F.Own ty i) (λ w. own ty i w)
  layer_more (Expr-F.Unary op a) = rolled_more (Expr-F.Unary op a.0) (λ w. a.1 w)
  layer_more (Expr-F.Binary op a b) = rolled_more (Expr-F.Binary op a.0 b.0) (λ w.
      let both = and_parts (reads few.own few.others a.0) (reads few.own few.others b.0) w in
      and_from _ _ (a.1 both.0) (b.1 both.1))
  layer_more (Expr-F.Pick c a b) = rolled_more (Expr-F.Pick c.0 a.0 b.0) (λ w.
      let first = and_parts (reads few.own few.others c.0) (reads few.own few.others a.0 && reads few.own few.others b.0) w in
      let both = and_parts (reads few.own few.others a.0) (reads few.own few.others b.0) first.1 in
      and_from _ _ (c.1 first.0) (and_from _ _ (a.1 both.0) (b.1 both.1)))
  layer_more (Expr-F.Get r ty i) = rolled_more (Expr-F.Get r ty i) (λ w.
      let both = and_parts (ref_reads few.own r) (few.others ty) w in
      and_from _ _ (ref_more r both.0) (others ty both.1))
  layer_more (Expr-F.Alive r) = rolled_more (Expr-F.Alive r) (λ w. ref_more r w)
  layer_more (Expr-F.Has r ty) = rolled_more (Expr-F.Has r ty) (λ w. ref_more r w)
  layer_more (Expr-F.Same r q) = rolled_more (Expr-F.Same r q) (λ w.
      let both = and_parts (ref_reads few.own r) (ref_reads few.own q) w in
      and_from _ _ (ref_more r both.0) (ref_more q both.1))
  layer_more (Expr-F.On ty) = rolled_more (Expr-F.On ty) (λ w. refl)

  expr_more : (e : Expr) → ReadsMore e
  expr_more = ind-Expr ReadsMore (λ x y is. subst (λ (z : Expr-F Expr). ReadsMore (roll-Expr z)) is (layer_more y))

  value_more : (v : ValueExpr) → ValueReads few v → ValueReads many v
  value_more (values.Int e) w = expr_more e w
  value_more (values.Ref r) w = ref_more r w

  part_more : (p : PartExpr) → PartReads few p → PartReads many p
  part_more p w v i = value_more v (w v i)

  command_more : (c : CommandText) → CommandReads few c → CommandReads many c
  command_more (texts.Create name parts) w = λ p i. part_more p (w p i)
  command_more (texts.Destroy r) w = ref_more r w
  command_more (texts.Add r p) w = (ref_more r w.0, part_more p w.1)
  command_more (texts.Set r p) w = (ref_more r w.0, part_more p w.1)
  command_more (texts.SetShared r p) w = (ref_more r w.0, part_more p w.1)
  command_more (texts.Remove r ty) w = ref_more r w
  command_more (texts.Enable r ty) w = ref_more r w
  command_more (texts.Disable r ty) w = ref_more r w
  command_more (texts.Instantiate name r) w = ref_more r w

  pub system_more : (s : SystemEntry) → SystemReads few s → SystemReads many s
  system_more s w = record {
    assigns = λ a i. value_more a.value (w.assigns a i);
    switches = λ x i. expr_more x.value (w.switches x i);
    when = λ c i. expr_more c.when (w.when c i);
    key = λ c i. expr_more c.key (w.key c i);
    acts = λ c i. command_more c.act (w.acts c i);
  }
