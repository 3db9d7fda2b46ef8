-- What a row records: structural changes for later, each with its key. Their values are computed when they are recorded.
use Rattle.std.specs.Prelude.{ℕ, ℤ, ◌+◌, ◌%◌, Bool, true, false, ◌&&◌, if◌then◌else◌, List, [], ◌∷◌, ◌++◌, length, map, flat_map}
use Rattle.std.specs.Int.{int_wrap, w32}
use Rattle.std.specs.List.{list_all}
use Rattle.ent_types.specs.declared.entity.Entity.{Entity}
use Rattle.ent_types.specs.declared.kinds.FieldKind.{FieldKind}
use Rattle.ent_types.specs.declared.point.Point.{Point}
use Rattle.ent_types.specs.declared.type_info.TypeInfo.{TypeInfo}
use Rattle.ent_types.specs.declared.value.Value.{Value}
use Rattle.ent_types.specs.declared.value.Value.TheVariants.{Int, Ref}
use Rattle.ent_types.specs.Fitting.{fit}
use Rattle.ent_types.specs.TypeLookups.{fields_at, field_kind_at}
use Rattle.ent_types.specs.TypeSets.{has_type}
use Rattle.world_model.specs.Part.{PartOf}
use Rattle.world_model.specs.Operations.{Act, Destroy, Add, Remove, Set, SetShared, SetEnabled, Instantiate}
use Rattle.expr_eval.specs.Values.{OwnRow, OtherRows, value, value_ref, is_true}
use Rattle.expr_trees.specs.declared.tree.RefExpr.{RefExpr}
use Rattle.expr_trees.specs.declared.tree.RefExpr.TheVariants as refs
use Rattle.expr_trees.specs.declared.tree.ValueExpr.{ValueExpr}
use Rattle.expr_trees.specs.declared.tree.ValueExpr.TheVariants as values
use Rattle.expr_trees.specs.declared.tree.PartExpr.{PartExpr}
use Rattle.expr_trees.specs.declared.tree.CommandText.{CommandText}
use Rattle.expr_trees.specs.declared.tree.CommandText.TheVariants as texts
use Rattle.scenario_record.specs.declared.record.CommandEntry.{CommandEntry}
use Rattle.scenario_record.specs.Uses.{Use, own_number, own_ref, looked_up, has_type as tested_type, on_type, made, in_act}

-- what a command acts on: an entity, or the one that the command of this number makes for the same row
pub data Target : Type 0 where
  Live : Entity → Target
  Placeholder : ℕ → Target

-- a value, or the entity that the command of this number makes for the same row
pub data GivenValue : Type 0 where
  Known : Value → GivenValue
  MadeBy : ℕ → GivenValue

-- a structural change whose values are known, except for the entities that are made
pub data Change : Type 0 where
  Creates : List (PartOf GivenValue) → Change
  ActsOn : Target → Act GivenValue → Change

-- a command that was recorded for a row; nothing here names the row
pub record Recorded : Type 0 where
  pub key : ℤ
  pub point : Point
  pub number : ℕ
  pub change : Change

-- ---- values

abbrev pub target_of : OwnRow → RefExpr → Target
target_of own refs.Null = Live (value_ref own refs.Null)
target_of own refs.Me = Live (value_ref own refs.Me)
target_of own (refs.Made k) = Placeholder k
target_of own (refs.Own ty i) = Live (value_ref own (refs.Own ty i))
target_of own (refs.Entity e) = Live (value_ref own (refs.Entity e))

abbrev pub given_ref : FieldKind → Target → GivenValue
given_ref kind (Live e) = Known (fit kind (Ref e))
given_ref kind (Placeholder k) = MadeBy k

abbrev pub given_of : OwnRow → OtherRows → FieldKind → ValueExpr → GivenValue
given_of own others kind (values.Int e) = Known (fit kind (Int (value own others e)))
given_of own others kind (values.Ref r) = given_ref kind (target_of own r)

abbrev pub placeholders_of : Use → List ℕ
placeholders_of (own_number ty i) = []
placeholders_of (own_ref ty i) = []
placeholders_of (looked_up ty i) = []
placeholders_of (tested_type ty) = []
placeholders_of (on_type ty) = []
placeholders_of (made k) = k ∷ []

-- the commands whose entities a command names
abbrev pub placeholders_in : CommandText → List ℕ
placeholders_in act = flat_map placeholders_of (in_act act)

module _ (registry : List TypeInfo) (own : OwnRow) (others : OtherRows) where
  -- The values of a part, from the one at this place on. A buffer has several elements, so the kinds of its fields begin
  -- anew after the last one.
  abbrev pub givens_from : ℕ → ℕ → List ValueExpr → List GivenValue
  givens_from t k [] = []
  givens_from t k (v ∷ vs) =
      given_of own others (field_kind_at registry t (k % length (fields_at registry t))) v ∷ givens_from t (k + 1) vs

  abbrev pub part_given : PartExpr → PartOf GivenValue
  part_given p = record { type_id = p.ty.0; values = givens_from p.ty.0 0 p.values }

  abbrev pub change_of : CommandText → Change
  change_of (texts.Create name parts) = Creates (map part_given parts)
  change_of (texts.Destroy r) = ActsOn (target_of own r) Destroy
  change_of (texts.Add r p) = ActsOn (target_of own r) (Add (part_given p))
  change_of (texts.Set r p) = ActsOn (target_of own r) (Set (part_given p))
  change_of (texts.SetShared r p) = ActsOn (target_of own r) (SetShared (part_given p))
  change_of (texts.Remove r ty) = ActsOn (target_of own r) (Remove ty.0)
  change_of (texts.Enable r ty) = ActsOn (target_of own r) (SetEnabled ty.0 true)
  change_of (texts.Disable r ty) = ActsOn (target_of own r) (SetEnabled ty.0 false)
  change_of (texts.Instantiate name r) = ActsOn (target_of own r) Instantiate

  -- ---- recording

  -- A command is recorded where its `when` isn't 0, and each command whose entity it names was recorded for this row.
  abbrev pub is_recorded : List ℕ → CommandEntry → Bool
  is_recorded recorded c = is_true (value own others c.when) && list_all (has_type recorded) (placeholders_in c.act)

  abbrev pub recorded_as : ℕ → CommandEntry → Recorded
  recorded_as n c = record { key = int_wrap w32 (value own others c.key); point = c.buffer; number = n; change = change_of c.act }

  -- what is recorded of commands whose first has this number, after some before it were recorded
  abbrev pub recorded_from : ℕ → List ℕ → List CommandEntry → List Recorded
  recorded_from n recorded [] = []
  recorded_from n recorded (c ∷ cs) =
      (if is_recorded recorded c then recorded_as n c ∷ [] else [])
      ++ recorded_from (n + 1) (if is_recorded recorded c then n ∷ recorded else recorded) cs

  abbrev pub recorded_by : List CommandEntry → List Recorded
  recorded_by commands = recorded_from 0 [] commands
