-- What a run asks of a system, so that a lawful world stays lawful. Each system of a scenario that passes its checks has it.
use Rattle.std.specs.Prelude.{◌≡◌, ℕ, true, false, List, [], ◌∷◌, map, Option, Some, None}
use Rattle.ent_types.specs.declared.entity.Entity.{Entity}
use Rattle.ent_types.specs.declared.kinds.FieldKind.{FieldKind}
use Rattle.ent_types.specs.declared.type_info.FieldInfo.{FieldInfo}
use Rattle.ent_types.specs.declared.type_info.TypeInfo.{TypeInfo}
use Rattle.ent_types.specs.Types.{is_ref_kind}
use Rattle.ent_types.specs.TypeLookups.{fields_at, is_buffer_at, is_shared_at, is_enableable_at}
use Rattle.world_model.specs.Members.{In, AreDistinct}
use Rattle.world_model.specs.Fits.{IsKnown}
use Rattle.world_model.specs.Operations.{Operation}
use Rattle.world_model.specs.Lawful.{Suits}
use Rattle.expr_trees.specs.declared.tree.Assign.{Assign}
use Rattle.expr_trees.specs.declared.tree.Switch.{Switch}
use Rattle.expr_trees.specs.declared.tree.CommandText.{CommandText}
use Rattle.expr_trees.specs.declared.tree.CommandText.TheVariants as texts
use Rattle.expr_trees.specs.declared.tree.PartExpr.{PartExpr}
use Rattle.expr_trees.specs.declared.tree.ValueExpr.{ValueExpr}
use Rattle.expr_trees.specs.declared.tree.ValueExpr.TheVariants as values
use Rattle.scenario_record.specs.declared.record.CommandEntry.{CommandEntry}
use Rattle.scenario_record.specs.declared.record.SystemEntry.{SystemEntry}
use Rattle.run_model.specs.Run.{Entry}
use Rattle.run_model.specs.Playback.{operation_of}

-- no assignment writes a dynamic buffer, and each enable text switches an enableable type
pub record HasLawfulTexts (registry : List TypeInfo) (s : SystemEntry) : Type 0 where
  pub assigns : (a : Assign) → In a s.set → is_buffer_at registry a.ty.0 ≡ false
  pub switches : (w : Switch) → In w s.enable → is_enableable_at registry w.ty.0 ≡ true

-- ---- entries

-- a target that wasn't made asks for nothing
abbrev pub OperationSuits : List TypeInfo → Option Operation → Type 0
OperationSuits registry None = Unit {0}
OperationSuits registry (Some operation) = Suits registry operation

-- what playback asks of an entry, whatever entities its placeholders stand for
abbrev pub EntrySuits : List TypeInfo → Entry → Type 0
EntrySuits registry x = (made : ℕ → Option Entity) → OperationSuits registry (operation_of made x.command.change)

abbrev pub AllSuit : List TypeInfo → List Entry → Type 0
AllSuit registry entries = (x : Entry) → In x entries → EntrySuits registry x

-- ---- commands

-- a number for a field of numbers, a reference for a ref field
abbrev pub IsOfKind : FieldKind → ValueExpr → Type 0
IsOfKind kind (values.Int e) = is_ref_kind kind ≡ false
IsOfKind kind (values.Ref r) = is_ref_kind kind ≡ true

-- one value for each field, of its kind
abbrev pub AreOfKinds : List FieldInfo → List ValueExpr → Type 0
AreOfKinds [] [] = Unit {0}
AreOfKinds [] (v ∷ vs) = ⊥
AreOfKinds (f ∷ fs) [] = ⊥
AreOfKinds (f ∷ fs) (v ∷ vs) = IsOfKind f.kind v × AreOfKinds fs vs

-- a part of a known type, which is no dynamic buffer
pub record PartSuits (registry : List TypeInfo) (p : PartExpr) : Type 0 where
  pub known : IsKnown registry p.ty.0
  pub plain : is_buffer_at registry p.ty.0 ≡ false
  pub values : AreOfKinds (fields_at registry p.ty.0) p.values

abbrev pub CommandSuits : List TypeInfo → CommandText → Type 0
CommandSuits registry (texts.Create name parts) = ((p : PartExpr) → In p parts → PartSuits registry p) × AreDistinct (map (λ p. p.ty.0) parts)
CommandSuits registry (texts.Destroy r) = Unit {0}
CommandSuits registry (texts.Add r p) = PartSuits registry p
CommandSuits registry (texts.Set r p) = PartSuits registry p × (is_shared_at registry p.ty.0 ≡ false)
CommandSuits registry (texts.SetShared r p) = PartSuits registry p × (is_shared_at registry p.ty.0 ≡ true)
CommandSuits registry (texts.Remove r ty) = IsKnown registry ty.0
CommandSuits registry (texts.Enable r ty) = IsKnown registry ty.0
CommandSuits registry (texts.Disable r ty) = IsKnown registry ty.0
CommandSuits registry (texts.Instantiate name r) = Unit {0}

-- ---- systems

pub record SystemSuits (registry : List TypeInfo) (s : SystemEntry) : Type 0 where
  pub texts : HasLawfulTexts registry s
  pub commands : (c : CommandEntry) → In c s.command → CommandSuits registry c.act
