-- Which names the texts of a scenario have, by the place of a text, and that each value is of its field's kind.
use Rattle.std.specs.Prelude.{ℕ, zero, suc, Bool, true, false, not, ◌&&◌, ◌||◌, ◌==◌, nat_lt, List, [], ◌∷◌, length, map}
use Rattle.std.specs.List.{list_all}
use Rattle.ent_types.specs.declared.entity.TypeId.{TypeId}
use Rattle.ent_types.specs.declared.entity.TheConstants.TypeId.{SCENE_TAG}
use Rattle.ent_types.specs.declared.kinds.Kind.{Kind}
use Rattle.ent_types.specs.declared.kinds.Kind.TheVariants.{Plain, Tag, Shared, Cleanup, Buffer}
use Rattle.ent_types.specs.declared.kinds.FieldKind.{FieldKind}
use Rattle.ent_types.specs.declared.type_info.FieldInfo.{FieldInfo}
use Rattle.ent_types.specs.declared.type_info.TypeInfo.{TypeInfo}
use Rattle.ent_types.specs.Types.{is_ref_kind}
use Rattle.ent_types.specs.TypeLookups.{kind_at, fields_at, field_kind_at, has_column_at, is_shared_at, is_buffer_at, is_enableable_at}
use Rattle.ent_types.specs.TypeSets.{has_type}
use Rattle.expr_trees.specs.declared.tree.Expr.{Expr, fold-Expr}
use Rattle.expr_trees.specs.declared.tree.Expr.TheOpen.{Expr-F}
use Rattle.expr_trees.specs.declared.tree.RefExpr.{RefExpr}
use Rattle.expr_trees.specs.declared.tree.RefExpr.TheVariants as refs
use Rattle.expr_trees.specs.declared.tree.Variable.{Variable}
use Rattle.expr_trees.specs.declared.tree.Variable.TheVariants.{Frame, N}
use Rattle.expr_trees.specs.declared.tree.ValueExpr.{ValueExpr}
use Rattle.expr_trees.specs.declared.tree.ValueExpr.TheVariants as values
use Rattle.expr_trees.specs.declared.tree.PartExpr.{PartExpr}
use Rattle.expr_trees.specs.declared.tree.Assign.{Assign}
use Rattle.expr_trees.specs.declared.tree.Switch.{Switch}
use Rattle.expr_trees.specs.declared.tree.CommandText.{CommandText}
use Rattle.expr_trees.specs.declared.tree.CommandText.TheVariants as commands

-- ---- types and fields

abbrev pub is_known : List TypeInfo → TypeId → Bool
is_known registry ty = nat_lt ty.0 (length registry)

-- no type is there twice
abbrev pub are_once : List ℕ → Bool
are_once [] = true
are_once (t ∷ ts) = not (has_type ts t) && are_once ts

abbrev pub is_scene_tag : TypeId → Bool
is_scene_tag ty = ty.0 == SCENE_TAG.0

-- whether a look-up can read fields of a type of this kind
abbrev pub has_values : Kind → Bool
has_values Plain = true
has_values Tag = false
has_values Shared = true
has_values Cleanup = true
has_values Buffer = false

-- a known type has a field at this place, which a look-up can read
abbrev pub has_field : List TypeInfo → TypeId → ℕ → Bool
has_field registry ty i = is_known registry ty && (nat_lt i (length (fields_at registry ty.0)) && has_values (kind_at registry ty.0))

abbrev pub has_number : List TypeInfo → TypeId → ℕ → Bool
has_number registry ty i = has_field registry ty i && not (is_ref_kind (field_kind_at registry ty.0 i))

abbrev pub has_ref : List TypeInfo → TypeId → ℕ → Bool
has_ref registry ty i = has_field registry ty i && is_ref_kind (field_kind_at registry ty.0 i)

-- ---- places

-- what the texts of a place may name
pub record Names : Type 0 where
  pub variable : Variable → Bool
  -- a number field and a ref field of the own row
  pub own_number : TypeId → ℕ → Bool
  pub own_ref : TypeId → ℕ → Bool
  -- a field of `get`, the type of `has`, and the type of `on`
  pub looked_up : TypeId → ℕ → Bool
  pub asked : TypeId → Bool
  pub tested : TypeId → Bool
  -- `self`, `alive` and `same`
  pub has_row : Bool

abbrev pub is_n : Variable → Bool
is_n N = true
is_n v = false

abbrev pub is_frame : Variable → Bool
is_frame Frame = true
is_frame v = false

-- A system names fields of the types that each of its rows has, and looks up fields of any type.
abbrev pub names_of_a_system : List TypeInfo → (ℕ → Bool) → Names
names_of_a_system registry bound = record {
  variable = λ v. not (is_n v);
  own_number = λ ty i. bound ty.0 && has_number registry ty i;
  own_ref = λ ty i. bound ty.0 && has_ref registry ty i;
  looked_up = has_number registry;
  asked = is_known registry;
  tested = λ ty. is_known registry ty && not (is_shared_at registry ty.0);
  has_row = true;
}

-- A spawn and an event have no row and ask nothing of the world. They name one variable.
abbrev pub names_without_a_row : (Variable → Bool) → Names
names_without_a_row variable = record {
  variable = variable;
  own_number = λ ty i. false;
  own_ref = λ ty i. false;
  looked_up = λ ty i. false;
  asked = λ ty. false;
  tested = λ ty. false;
  has_row = false;
}

abbrev pub names_of_a_spawn : Names
names_of_a_spawn = names_without_a_row is_n

abbrev pub names_of_an_event : Names
names_of_an_event = names_without_a_row is_frame

-- ---- references and expressions

-- no command makes what is named
abbrev pub none_made : ℕ → Bool
none_made n = false

-- `made` says of the number of a command whether what it makes may be named
abbrev pub ref_fits : Names → (ℕ → Bool) → RefExpr → Bool
ref_fits names made refs.Null = true
ref_fits names made refs.Me = names.has_row
ref_fits names made (refs.Made n) = made n
ref_fits names made (refs.Own ty i) = names.own_ref ty i
ref_fits names made (refs.Entity e) = true

abbrev pub fits_step : Names → Expr-F Bool → Bool
fits_step names (Expr-F.Number z) = true
fits_step names (Expr-F.Variable v) = names.variable v
fits_step names (Expr-F.Own ty i) = names.own_number ty i
fits_step names (Expr-F.Unary op a) = a
fits_step names (Expr-F.Binary op a b) = a && b
fits_step names (Expr-F.Pick c a b) = c && (a && b)
fits_step names (Expr-F.Get r ty i) = ref_fits names none_made r && names.looked_up ty i
fits_step names (Expr-F.Alive r) = names.has_row && ref_fits names none_made r
fits_step names (Expr-F.Has r ty) = ref_fits names none_made r && names.asked ty
fits_step names (Expr-F.Same r q) = names.has_row && (ref_fits names none_made r && ref_fits names none_made q)
fits_step names (Expr-F.On ty) = names.tested ty

abbrev pub expr_fits : Names → Expr → Bool
expr_fits names = fold-Expr Bool (fits_step names)

-- ---- values and parts

module _ (registry : List TypeInfo) (names : Names) (made : ℕ → Bool) where
  -- a number for a field of numbers, a reference for a ref field
  abbrev pub value_fits : FieldKind → ValueExpr → Bool
  value_fits kind (values.Int e) = not (is_ref_kind kind) && expr_fits names e
  value_fits kind (values.Ref r) = is_ref_kind kind && ref_fits names made r

  -- one value for each field
  abbrev pub values_fit : List FieldInfo → List ValueExpr → Bool
  values_fit [] [] = true
  values_fit [] (v ∷ vs) = false
  values_fit (f ∷ fs) [] = false
  values_fit (f ∷ fs) (v ∷ vs) = value_fits f.kind v && values_fit fs vs

  abbrev pub part_fits : PartExpr → Bool
  part_fits p = is_known registry p.ty && values_fit (fields_at registry p.ty.0) p.values

  -- a part of a type that a row can be given: only a load of a scene gives `SceneTag`
  abbrev pub new_part_fits : PartExpr → Bool
  new_part_fits p = (not (is_scene_tag p.ty) && not (is_buffer_at registry p.ty.0)) && part_fits p

  -- such parts, of one type each
  abbrev pub new_parts_fit : List PartExpr → Bool
  new_parts_fit parts = list_all new_part_fits parts && are_once (map (λ p. p.ty.0) parts)

  -- ---- commands

  abbrev pub command_fits : CommandText → Bool
  command_fits (commands.Create name parts) = new_parts_fit parts
  command_fits (commands.Destroy r) = ref_fits names made r
  command_fits (commands.Add r p) = ref_fits names made r && new_part_fits p
  command_fits (commands.Set r p) = ref_fits names made r && (has_column_at registry p.ty.0 && part_fits p)
  command_fits (commands.SetShared r p) =
      ref_fits names made r && ((is_shared_at registry p.ty.0 && not (is_scene_tag p.ty)) && part_fits p)
  command_fits (commands.Remove r ty) = ref_fits names made r && (is_known registry ty && not (is_scene_tag ty))
  command_fits (commands.Enable r ty) = ref_fits names made r && (is_known registry ty && is_enableable_at registry ty.0)
  command_fits (commands.Disable r ty) = ref_fits names made r && (is_known registry ty && is_enableable_at registry ty.0)
  command_fits (commands.Instantiate name r) = ref_fits names made r

-- ---- assignments and switches, of types that each row of the system has

-- a value for a field of a plain or cleanup type
abbrev pub assign_fits : List TypeInfo → (ℕ → Bool) → Assign → Bool
assign_fits registry bound a =
    (bound a.ty.0 && has_column_at registry a.ty.0) && (has_field registry a.ty a.field
    && value_fits registry (names_of_a_system registry bound) none_made (field_kind_at registry a.ty.0 a.field) a.value)

-- an enableable type
abbrev pub switch_fits : List TypeInfo → (ℕ → Bool) → Switch → Bool
switch_fits registry bound w =
    (bound w.ty.0 && (is_known registry w.ty && is_enableable_at registry w.ty.0))
    && expr_fits (names_of_a_system registry bound) w.value
