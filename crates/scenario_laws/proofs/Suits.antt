-- The parts and commands of a scenario suit its types.
use Rattle.std.proofs.Common.{ℕ, ◌≡◌, List, [], ◌∷◌, Bool, true, false, not, ◌&&◌, map, refl}
use Rattle.std.specs.List.{list_all}
use Rattle.std.proofs.lemmas.Bool.{and_parts, not-true, ltb-true}
use Rattle.ent_types.specs.declared.kinds.Kind.{Kind}
use Rattle.ent_types.specs.declared.kinds.Kind.TheVariants.{Plain, Tag, Shared, Cleanup, Buffer}
use Rattle.ent_types.specs.declared.kinds.FieldKind.{FieldKind}
use Rattle.ent_types.specs.declared.type_info.FieldInfo.{FieldInfo}
use Rattle.ent_types.specs.declared.type_info.TypeInfo.{TypeInfo}
use Rattle.ent_types.specs.Types.{is_ref_kind, is_shared, is_buffer, has_column}
use Rattle.ent_types.specs.TypeLookups.{kind_at, fields_at, has_column_at, is_shared_at, is_buffer_at, is_enableable_at}
use Rattle.expr_trees.specs.declared.tree.PartExpr.{PartExpr}
use Rattle.expr_trees.specs.declared.tree.ValueExpr.{ValueExpr}
use Rattle.expr_trees.specs.declared.tree.ValueExpr.TheVariants as values
use Rattle.expr_trees.specs.declared.tree.CommandText.{CommandText}
use Rattle.expr_trees.specs.declared.tree.CommandText.TheVariants as texts
use Rattle.scenario_record.specs.TextNames.{Names, is_known, is_scene_tag, are_once, has_values, ref_fits, expr_fits, value_fits, values_fit, part_fits, new_part_fits, new_parts_fit, command_fits}
use Rattle.world_model.specs.Members.{In, AreDistinct}
use Rattle.run_laws.specs.Suits.{IsOfKind, AreOfKinds, PartSuits, CommandSuits}
use Rattle.scenario_laws.proofs.Members.{passes, are_distinct}

-- ---- kinds

pub column_is_own : (kind : Kind) → has_column kind ≡ true → is_shared kind ≡ false
column_is_own Plain has = refl
column_is_own Tag has = absurd cc
column_is_own Shared has = absurd cc
column_is_own Cleanup has = refl
column_is_own Buffer has = absurd cc

pub column_is_flat : (kind : Kind) → has_column kind ≡ true → is_buffer kind ≡ false
column_is_flat Plain has = refl
column_is_flat Tag has = absurd cc
column_is_flat Shared has = absurd cc
column_is_flat Cleanup has = refl
column_is_flat Buffer has = absurd cc

pub shared_is_flat : (kind : Kind) → is_shared kind ≡ true → is_buffer kind ≡ false
shared_is_flat Plain is = absurd cc
shared_is_flat Tag is = absurd cc
shared_is_flat Shared is = refl
shared_is_flat Cleanup is = absurd cc
shared_is_flat Buffer is = absurd cc

pub values_are_flat : (kind : Kind) → has_values kind ≡ true → is_buffer kind ≡ false
values_are_flat Plain has = refl
values_are_flat Tag has = absurd cc
values_are_flat Shared has = refl
values_are_flat Cleanup has = refl
values_are_flat Buffer has = absurd cc

-- ---- values, parts and commands

module _ (registry : List TypeInfo) (names : Names) (made : ℕ → Bool) where
  pub value_of_kind : (kind : FieldKind) (v : ValueExpr) → value_fits registry names made kind v ≡ true → IsOfKind kind v
  value_of_kind kind (values.Int e) fits = not-true (is_ref_kind kind) (and_parts (not (is_ref_kind kind)) (expr_fits names e) fits).0
  value_of_kind kind (values.Ref r) fits = (and_parts (is_ref_kind kind) (ref_fits names made r) fits).0

  values_of_kinds : (fs : List FieldInfo) (vs : List ValueExpr) → values_fit registry names made fs vs ≡ true → AreOfKinds fs vs
  values_of_kinds [] [] fits = tt
  values_of_kinds [] (v ∷ vs) fits = absurd cc
  values_of_kinds (f ∷ fs) [] fits = absurd cc
  values_of_kinds (f ∷ fs) (v ∷ vs) fits =
      let both = and_parts (value_fits registry names made f.kind v) (values_fit registry names made fs vs) fits in
      (value_of_kind f.kind v both.0, values_of_kinds fs vs both.1)

  part_suits : (p : PartExpr) → is_buffer_at registry p.ty.0 ≡ false → part_fits registry names made p ≡ true → PartSuits registry p
  part_suits p flat fits =
      let both = and_parts (is_known registry p.ty) (values_fit registry names made (fields_at registry p.ty.0) p.values) fits in
      record {
        known = ltb-true _ _ both.0;
        plain = flat;
        values = values_of_kinds (fields_at registry p.ty.0) p.values both.1;
      }

  new_part_suits : (p : PartExpr) → new_part_fits registry names made p ≡ true → PartSuits registry p
  new_part_suits p fits =
      let both = and_parts (not (is_scene_tag p.ty) && not (is_buffer_at registry p.ty.0)) (part_fits registry names made p) fits in
      part_suits p (not-true _ (and_parts (not (is_scene_tag p.ty)) (not (is_buffer_at registry p.ty.0)) both.0).1) both.1

  pub parts_suit : (ps : List PartExpr) → new_parts_fit registry names made ps ≡ true → (p : PartExpr) → In p ps → PartSuits registry p
  parts_suit ps fits p i = new_part_suits p (passes (new_part_fits registry names made) p ps (and_parts _ _ fits).0 i)

  pub parts_once : (ps : List PartExpr) → new_parts_fit registry names made ps ≡ true → AreDistinct (map (λ (p : PartExpr). p.ty.0) ps)
  parts_once ps fits = are_distinct _ (and_parts (list_all (new_part_fits registry names made) ps) (are_once (map (λ p. p.ty.0) ps)) fits).1

  pub act_suits : (c : CommandText) → command_fits registry names made c ≡ true → CommandSuits registry c
  act_suits (texts.Create name parts) fits = (parts_suit parts fits, parts_once parts fits)
  act_suits (texts.Destroy r) fits = tt
  act_suits (texts.Add r p) fits = new_part_suits p (and_parts (ref_fits names made r) (new_part_fits registry names made p) fits).1
  act_suits (texts.Set r p) fits =
      let rest = (and_parts (ref_fits names made r) (has_column_at registry p.ty.0 && part_fits registry names made p) fits).1 in
      let both = and_parts (has_column_at registry p.ty.0) (part_fits registry names made p) rest in
      (part_suits p (column_is_flat (kind_at registry p.ty.0) both.0) both.1, column_is_own (kind_at registry p.ty.0) both.0)
  act_suits (texts.SetShared r p) fits =
      let rest = (and_parts (ref_fits names made r) ((is_shared_at registry p.ty.0 && not (is_scene_tag p.ty)) && part_fits registry names made p) fits).1 in
      let both = and_parts (is_shared_at registry p.ty.0 && not (is_scene_tag p.ty)) (part_fits registry names made p) rest in
      let shared = (and_parts (is_shared_at registry p.ty.0) (not (is_scene_tag p.ty)) both.0).0 in
      (part_suits p (shared_is_flat (kind_at registry p.ty.0) shared) both.1, shared)
  act_suits (texts.Remove r ty) fits =
      let rest = (and_parts (ref_fits names made r) (is_known registry ty && not (is_scene_tag ty)) fits).1 in
      ltb-true _ _ (and_parts (is_known registry ty) (not (is_scene_tag ty)) rest).0
  act_suits (texts.Enable r ty) fits =
      let rest = (and_parts (ref_fits names made r) (is_known registry ty && is_enableable_at registry ty.0) fits).1 in
      ltb-true _ _ (and_parts (is_known registry ty) (is_enableable_at registry ty.0) rest).0
  act_suits (texts.Disable r ty) fits =
      let rest = (and_parts (ref_fits names made r) (is_known registry ty && is_enableable_at registry ty.0) fits).1 in
      ltb-true _ _ (and_parts (is_known registry ty) (is_enableable_at registry ty.0) rest).0
  act_suits (texts.Instantiate name r) fits = tt
