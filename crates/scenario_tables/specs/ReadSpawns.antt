-- The table of a spawn: `count`, `with`, `disabled`.
use Rattle.std.specs.Prelude.{ℕ, not, List, [], ◌∷◌, fold, codes, Ok, Err}
use Rattle.toml.specs.Data.{Data, string, integer, Items}
use Rattle.ent_types.specs.declared.limits.TheConstants.{MOST_ENTITIES}
use Rattle.ent_types.specs.declared.kinds.FieldKind.{FieldKind}
use Rattle.ent_types.specs.declared.kinds.FieldKind.TheVariants.{I32, I64, Ref as RefKind}
use Rattle.ent_types.specs.declared.type_info.FieldInfo.{FieldInfo}
use Rattle.ent_types.specs.declared.type_info.TypeInfo.{TypeInfo}
use Rattle.ent_types.specs.declared.value.Value.TheVariants.{Int}
use Rattle.ent_types.specs.Fitting.{fits_field}
use Rattle.ent_types.specs.Registries.{type_at}
use Rattle.ent_types.specs.TypeSets.{with_type}
use Rattle.expr_trees.specs.declared.tree.Expr.TheVariants.{Number}
use Rattle.expr_trees.specs.declared.tree.ValueExpr.{ValueExpr}
use Rattle.expr_trees.specs.declared.tree.ValueExpr.TheVariants.{Int as IntExpr, Ref as RefExpr}
use Rattle.expr_trees.specs.declared.tree.PartExpr.{PartExpr}
use Rattle.scenario_record.specs.declared.fault.Cause.TheVariants.{WrongType, NumberRange}
use Rattle.scenario_record.specs.declared.record.SpawnEntry.{SpawnEntry}
use Rattle.scenario_record.specs.Faults.{bad}
use Rattle.scenario_record.specs.Readings.{Reading, ◌>>=◌, changed, unless, fault_if}
use Rattle.scenario_tables.specs.declared.type_lists.Allowed.TheVariants.{Spawned, EnableableOf}
use Rattle.scenario_tables.specs.ReadKeys.{known_table, optional, number, text, list, members, each_over, field_values_from, field_values, each_member}
use Rattle.scenario_tables.specs.ReadTexts.{spawn_expr, spawn_ref}
use Rattle.scenario_tables.specs.ReadTypeLists.{type_of_key, one_more_type, none_beside}

-- ---- `with`

-- a number in the range of its field, or a text
abbrev pub number_value : List TypeInfo → FieldKind → Data → Reading ValueExpr
number_value registry kind (integer z) = unless (fault_if (not (fits_field kind (Int z))) NumberRange) (Ok (IntExpr (Number z)))
number_value registry kind (string s) = changed IntExpr (spawn_expr registry s)
number_value registry kind d = Err (bad WrongType)

abbrev pub ref_value : List TypeInfo → Data → Reading ValueExpr
ref_value registry d = text d >>= λ s. changed RefExpr (spawn_ref registry s)

abbrev pub field_value : List TypeInfo → FieldKind → Data → Reading ValueExpr
field_value registry I32 d = number_value registry I32 d
field_value registry I64 d = number_value registry I64 d
field_value registry RefKind d = ref_value registry d

-- one value for each field
abbrev pub values_from : List TypeInfo → ℕ → List FieldInfo → Items → Reading (List ValueExpr)
values_from registry i fields ds = field_values_from (field_value registry) i fields ds

abbrev pub part_values : List TypeInfo → List FieldInfo → Items → Reading (List ValueExpr)
part_values registry fields ds = field_values (field_value registry) fields ds

abbrev pub part_of : List TypeInfo → Items → ℕ → Reading PartExpr
part_of registry ds ty =
    changed (λ vs. record { ty = record { 0 = ty }; values = vs }) (part_values registry (type_at registry ty).fields ds)

abbrev pub part : List TypeInfo → List ℕ → Data → Reading PartExpr
part registry key d =
    list d >>= λ ds.
    type_of_key registry Spawned key >>= λ ty.
    part_of registry ds ty

-- the parts, in order of the keys' bytes
abbrev pub with_table : List TypeInfo → Data → Reading (List PartExpr)
with_table registry d = members d >>= each_member (part registry)

-- ---- `disabled`

-- the types of the parts
abbrev pub part_types : List PartExpr → List ℕ
part_types parts = fold (λ set p. with_type set p.ty.0) [] parts

-- enableable types of `with`
abbrev pub disabled_types : List TypeInfo → List ℕ → Data → Reading (List ℕ)
disabled_types registry types d =
    changed (λ n. n.found) (list d >>= each_over (one_more_type registry (EnableableOf types)) (none_beside []) 0)

-- ---- the table

unfoldable pub spawn : List TypeInfo → Data → Reading SpawnEntry
spawn registry d =
    known_table (codes "count" ∷ codes "with" ∷ codes "disabled" ∷ []) d >>= λ ms.
    optional (codes "count") 1 (number 1 MOST_ENTITIES) ms >>= λ count.
    optional (codes "with") [] (with_table registry) ms >>= λ parts.
    optional (codes "disabled") [] (disabled_types registry (part_types parts)) ms >>= λ disabled.
    Ok (record { count = count; parts = parts; disabled = disabled })
