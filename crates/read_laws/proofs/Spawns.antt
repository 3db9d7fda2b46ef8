-- Each spawn that is read is lawful.
use Rattle.std.proofs.Common.{ℕ, ◌≡◌, ◌≤◌, ◌+◌, List, [], ◌∷◌, true, false, not, ◌&&◌, Some, Ok, length, map, refl, ◌∙◌, subst, arith}
use Rattle.std.specs.Prelude.{codes, ◌==◌}
use Rattle.std.specs.List.{list_all}
use Rattle.std.proofs.lemmas.Bool.{and_parts, and_from, not-false, not_from_false, lt-ltb, eqb-true}
use Rattle.toml.specs.Data.{Data, string, integer, float, boolean, datetime, array, table, Items, no_items, item, is_sorted}
use Rattle.ent_types.specs.declared.kinds.FieldKind.{FieldKind}
use Rattle.ent_types.specs.declared.kinds.FieldKind.TheVariants.{I32, I64, Ref}
use Rattle.ent_types.specs.declared.limits.TheConstants.{MOST_ENTITIES}
use Rattle.ent_types.specs.declared.type_info.FieldInfo.{FieldInfo}
use Rattle.ent_types.specs.declared.type_info.TypeInfo.{TypeInfo}
use Rattle.ent_types.specs.declared.value.Value.TheVariants.{Int}
use Rattle.ent_types.specs.Fitting.{fits_field}
use Rattle.ent_types.specs.Registries.{type_named, type_at, plain_tag, IsLawfulRegistry}
use Rattle.ent_types.specs.Types.{is_ref_kind, is_buffer}
use Rattle.ent_types.specs.TypeLookups.{is_buffer_at, is_enableable_at}
use Rattle.ent_types.specs.TypeSets.{has_type}
use Rattle.ent_types.proofs.Lookups.{list_any-map}
use Rattle.ent_types.proofs.TypeNumbers.{type_named-Some}
use Rattle.expr_trees.specs.declared.tree.Expr.TheVariants.{Number}
use Rattle.expr_trees.specs.declared.tree.ValueExpr.{ValueExpr}
use Rattle.expr_trees.specs.declared.tree.ValueExpr.TheVariants as values
use Rattle.expr_trees.specs.declared.tree.PartExpr.{PartExpr}
use Rattle.expr_grammar.specs.Answers.{expr_answer, ref_answer}
use Rattle.expr_grammar.specs.Scopes.{Scope, IsLawful}
use Rattle.expr_read.specs.declared.scope.TextPlace.TheVariants.{Spawn}
use Rattle.expr_read.specs.ScopeOf.{scope_of}
use Rattle.expr_read.proofs.ScopeLaws.{scope_is_lawful}
use Rattle.scenario_record.specs.declared.fault.Cause.TheVariants.{NumberRange, WrongCount}
use Rattle.scenario_record.specs.declared.record.SpawnEntry.{SpawnEntry}
use Rattle.scenario_record.specs.Readings.{at_place, ◌>>=◌, changed}
use Rattle.scenario_record.specs.TextNames.{none_made, value_fits, values_fit, new_part_fits, new_parts_fit, names_of_a_spawn}
use Rattle.scenario_record.specs.Lawful.{IsLawfulSpawn}
use Rattle.scenario_tables.specs.ReadKeys.{known_table, optional, number, text, list, members, item_count, each_over, each_member}
use Rattle.scenario_tables.specs.ReadTexts.{spawn_expr, spawn_ref}
use Rattle.scenario_tables.specs.ReadTypeLists.{type_of_key, one_more_type, none_beside}
use Rattle.scenario_tables.specs.ReadSpawns.{number_value, field_value, values_from, part_values, part_of, part, with_table, part_types, disabled_types, spawn}
use Rattle.scenario_tables.specs.Parts.{Named, spawned, enableable_of}
use Rattle.read_laws.proofs.Inversions.{then_ok, changed_ok, ok_same, fault_ok, at_place_ok, number_ok, optional_ok}
use Rattle.read_laws.proofs.Lists.{all_weaker, all_at, all_from_each, grown}
use Rattle.read_laws.proofs.TypeLists.{type_of_key_ok, names_ok}
use Rattle.read_laws.proofs.Keyed.{keyed_ok, each_keyed, keyed_once}
use Rattle.read_laws.proofs.Tables.{members_sorted, known_table_sorted, sorted_optional_ok}
use Rattle.read_laws.proofs.TextsFit.{number_fits}
use Rattle.read_laws.proofs.TextsRead.{text_reading_ok, expr_read, ref_read}
use Rattle.read_laws.proofs.ScopesServe.{spawn_serves}

module _ (registry : List TypeInfo) (lawful : IsLawfulRegistry registry) (plain : list_all (λ t. not (is_buffer t.kind)) registry ≡ true) where
  abbrev s : Scope
  s = scope_of registry Spawn [] []

  law : IsLawful s
  law = scope_is_lawful registry lawful Spawn [] []

  -- ---- values

  abbrev Fits : FieldKind → ValueExpr → Type 0
  Fits kind v = value_fits registry names_of_a_spawn none_made kind v ≡ true

  number_ok_at : (kind : FieldKind) → is_ref_kind kind ≡ false → (d : Data) (v : ValueExpr) → number_value registry kind d ≡ Ok v → Fits kind v
  number_ok_at kind number (string t) v is =
      let e = changed_ok values.Int (spawn_expr registry t) v is in
      subst (Fits kind) e.2
      (and_from _ _ (not_from_false _ number)
      (expr_read s law names_of_a_spawn (spawn_serves registry lawful) t e.0 (text_reading_ok (expr_answer s t) e.0 e.1)))
  number_ok_at kind number (integer z) v is =
      let within = fault_ok (not (fits_field kind (Int z))) NumberRange (Ok (values.Int (Number z))) v is in
      subst (Fits kind) (ok_same (values.Int (Number z)) v within.1)
      (and_from _ _ (not_from_false _ number) (number_fits names_of_a_spawn z))
  number_ok_at kind number (float f) v is = absurd cc
  number_ok_at kind number (boolean b) v is = absurd cc
  number_ok_at kind number (datetime t) v is = absurd cc
  number_ok_at kind number (array ds) v is = absurd cc
  number_ok_at kind number (table ms) v is = absurd cc

  value_ok : (kind : FieldKind) (d : Data) (v : ValueExpr) → field_value registry kind d ≡ Ok v → Fits kind v
  value_ok I32 d v is = number_ok_at I32 refl d v is
  value_ok I64 d v is = number_ok_at I64 refl d v is
  value_ok Ref d v is =
      let t = then_ok (λ u. changed values.Ref (spawn_ref registry u)) (text d) v is in
      let r = changed_ok values.Ref (spawn_ref registry t.0) v t.2 in
      subst (Fits Ref) r.2
      (ref_read s law names_of_a_spawn (spawn_serves registry lawful) t.0 r.0 (text_reading_ok (ref_answer s t.0) r.0 r.1))

  values_ok : (i : ℕ) (fs : List FieldInfo) (ds : Items) (vs : List ValueExpr) → item_count ds ≡ length fs → values_from registry i fs ds ≡ Ok vs
      → values_fit registry names_of_a_spawn none_made fs vs ≡ true
  values_ok i [] ds vs count is = subst (λ us. values_fit registry names_of_a_spawn none_made [] us ≡ true) (ok_same [] vs is) refl
  values_ok i (f ∷ fs) no_items vs count is = absurd (omega (arith, count))
  values_ok i (f ∷ fs) (item d ds) vs count is =
      let first = then_ok (λ v. changed (λ us. v ∷ us) (values_from registry (i + 1) fs ds)) (at_place i (field_value registry f.kind d)) vs is in
      let later = changed_ok (λ us. first.0 ∷ us) (values_from registry (i + 1) fs ds) vs first.2 in
      subst (λ us. values_fit registry names_of_a_spawn none_made (f ∷ fs) us ≡ true) later.2
      (and_from _ _ (value_ok f.kind d first.0 (at_place_ok i (field_value registry f.kind d) first.0 first.1))
      (values_ok (i + 1) fs ds later.0 (omega (arith, count)) later.1))

  -- ---- parts

  record IsSpawnPart (key : List ℕ) (p : PartExpr) : Type 0 where
    pub named : type_named registry key ≡ Some p.ty.0
    pub fits : new_part_fits registry names_of_a_spawn none_made p ≡ true

  no_buffer : (ty : ℕ) → not (is_buffer_at registry ty) ≡ true
  no_buffer ty = all_at (λ (t : TypeInfo). not (is_buffer t.kind)) (plain_tag []) registry ty plain refl

  part_ok : (key : List ℕ) (d : Data) (p : PartExpr) → part registry key d ≡ Ok p → IsSpawnPart key p
  part_ok key d p is =
      let ds = then_ok _ (list d) p is in
      let ty = then_ok (part_of registry ds.0) (type_of_key registry spawned key) p ds.2 in
      let whole : List ValueExpr → PartExpr = λ vs. record { ty = record { 0 = ty.0 }; values = vs } in
      let known = type_of_key_ok registry spawned key ty.0 ty.1 in
      let fields = (type_at registry ty.0).fields in
      let vs = changed_ok whole (part_values registry fields ds.0) p ty.2 in
      let counted = fault_ok (not (item_count ds.0 == length fields)) WrongCount (values_from registry 0 fields ds.0) vs.0 vs.1 in
      let count : item_count ds.0 ≡ length fields = eqb-true (item_count ds.0) (length fields) (not-false _ counted.0) in
      let within = (type_named-Some registry key ty.0 known.named).0 in
      subst (IsSpawnPart key) vs.2 (record {
        named = known.named;
        fits = and_from _ _ (and_from _ _ known.fits (no_buffer ty.0)) (and_from _ _ (lt-ltb _ _ within) (values_ok 0 fields ds.0 vs.0 count counted.1));
      })

  abbrev PartsFit : List PartExpr → Type 0
  PartsFit parts = new_parts_fit registry names_of_a_spawn none_made parts ≡ true

  with_ok : (d : Data) (parts : List PartExpr) → is_sorted d ≡ true → with_table registry d ≡ Ok parts → PartsFit parts
  with_ok d parts sorted is =
      let ms = then_ok (each_member (part registry)) (members d) parts is in
      let keyed = keyed_ok IsSpawnPart (part registry) part_ok ms.0 parts ms.2 in
      let fit = each_keyed IsSpawnPart (λ p. new_part_fits registry names_of_a_spawn none_made p ≡ true) (λ k p h. h.fits) ms.0 parts keyed in
      and_from _ _ (all_from_each (new_part_fits registry names_of_a_spawn none_made) parts fit)
      (keyed_once registry (λ (p : PartExpr). p.ty.0) IsSpawnPart (λ k p h. h.named) ms.0 parts (members_sorted d ms.0 sorted ms.1) keyed)

  -- ---- `disabled`

  abbrev DisabledFit : List PartExpr → List ℕ → Type 0
  DisabledFit parts types = list_all (λ t. has_type (map (λ (q : PartExpr). q.ty.0) parts) t && is_enableable_at registry t) types ≡ true

  of_parts : (parts : List PartExpr) (t : ℕ) → has_type (part_types parts) t ≡ true → has_type (map (λ (q : PartExpr). q.ty.0) parts) t ≡ true
  of_parts parts t there =
      list_any-map (λ x. x == t) (λ (q : PartExpr). q.ty.0) parts ∙ grown (λ (q : PartExpr). q.ty.0) [] parts t there

  disabled_ok : (parts : List PartExpr) (d : Data) (types : List ℕ) → disabled_types registry (part_types parts) d ≡ Ok types → DisabledFit parts types
  disabled_ok parts d types is =
      let step = one_more_type registry (enableable_of (part_types parts)) in
      let n = changed_ok (λ (m : Named). m.found) (list d >>= each_over step (none_beside []) 0) types is in
      let ds = then_ok (each_over step (none_beside []) 0) (list d) n.0 n.1 in
      let named = names_ok registry (enableable_of (part_types parts)) [] ds.0 n.0 ds.2 in
      subst (DisabledFit parts) n.2
      (all_weaker (λ t. has_type (part_types parts) t && is_enableable_at registry t) (λ t. has_type (map (λ (q : PartExpr). q.ty.0) parts) t && is_enableable_at registry t)
      (λ t h. let (there, may) = and_parts _ _ h in and_from _ _ (of_parts parts t there) may) n.0.found named.fits)

  -- ---- the table

  abbrev IsCount : ℕ → Type 0
  IsCount n = (1 ≤ n) × (n ≤ MOST_ENTITIES)

  pub spawn_ok : (d : Data) (p : SpawnEntry) → is_sorted d ≡ true → spawn registry d ≡ Ok p → IsLawfulSpawn registry p
  unfolding spawn
  spawn_ok d p sorted is =
      let ms = then_ok _ (known_table (codes "count" ∷ codes "with" ∷ codes "disabled" ∷ []) d) p is in
      let keys = known_table_sorted (codes "count" ∷ codes "with" ∷ codes "disabled" ∷ []) d ms.0 sorted ms.1 in
      let count = then_ok _ (optional (codes "count") 1 (number 1 MOST_ENTITIES) ms.0) p ms.2 in
      let parts = then_ok _ (optional (codes "with") [] (with_table registry) ms.0) p count.2 in
      let disabled = then_ok _ (optional (codes "disabled") [] (disabled_types registry (part_types parts.0)) ms.0) p parts.2 in
      let counted = optional_ok IsCount (codes "count") 1 (number 1 MOST_ENTITIES) ms.0 count.0 (omega arith, omega arith)
      (λ e got. number_ok 1 MOST_ENTITIES e count.0 got) count.1 in
      subst (IsLawfulSpawn registry) (ok_same _ p disabled.2) (record {
        some = counted.0;
        few = counted.1;
        parts = sorted_optional_ok PartsFit (codes "with") [] (with_table registry) ms.0 parts.0 keys refl (λ e here got. with_ok e parts.0 here got) parts.1;
        disabled = optional_ok (DisabledFit parts.0) (codes "disabled") [] (disabled_types registry (part_types parts.0)) ms.0 disabled.0 refl
            (λ e got. disabled_ok parts.0 e disabled.0 got) disabled.1;
      })
