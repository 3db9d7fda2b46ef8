-- Which rows a system visits: the five clauses and the filters.
use Rattle.std.specs.Prelude.{ℕ, false, not, List, [], codes, fold, Ok, Err}
use Rattle.toml.specs.Data.{Data, integer, Items, Members}
use Rattle.ent_types.specs.declared.limits.TheConstants.{MOST_TYPES, MOST_CHANGED, MOST_SHARED_FILTERS}
use Rattle.ent_types.specs.declared.kinds.FieldKind.{FieldKind}
use Rattle.ent_types.specs.declared.type_info.FieldInfo.{FieldInfo}
use Rattle.ent_types.specs.declared.type_info.TypeInfo.{TypeInfo}
use Rattle.ent_types.specs.declared.value.Value.{Value}
use Rattle.ent_types.specs.declared.value.Value.TheVariants.{Int}
use Rattle.ent_types.specs.declared.value.Part.{Part}
use Rattle.ent_types.specs.Fitting.{fits_field}
use Rattle.ent_types.specs.Registries.{type_at}
use Rattle.ent_types.specs.TypeSets.{with_type}
use Rattle.scenario_record.specs.declared.fault.Cause.TheVariants.{WrongType, NumberRange}
use Rattle.scenario_record.specs.Faults.{bad}
use Rattle.scenario_record.specs.Readings.{Reading, ◌>>=◌, changed, unless, fault_if}
use Rattle.scenario_tables.specs.declared.queries.Clauses.{Clauses}
use Rattle.scenario_tables.specs.declared.queries.Filters.{Filters}
use Rattle.scenario_tables.specs.declared.type_lists.Allowed.{Allowed}
use Rattle.scenario_tables.specs.declared.type_lists.Allowed.TheVariants.{AnyType, Enableable, UnsharedOf, SharedOf}
use Rattle.scenario_tables.specs.declared.type_lists.Named.{Named}
use Rattle.scenario_tables.specs.ReadKeys.{optional, truth, list, members_up_to, field_values_from, field_values, each_member}
use Rattle.scenario_tables.specs.ReadTypeLists.{type_of_key, type_list, none_beside}

-- ---- the five clauses, which name no type twice between them

-- a list of types that the clauses before it don't name
abbrev pub clause : List ℕ → List TypeInfo → Allowed → List ℕ → Members → Reading Named
clause key registry allowed taken ms = optional key (none_beside taken) (type_list MOST_TYPES registry allowed taken) ms

abbrev pub clauses : List TypeInfo → Members → Reading Clauses
clauses registry ms =
    clause (codes "all") registry AnyType [] ms >>= λ all.
    clause (codes "any") registry AnyType all.taken ms >>= λ any.
    clause (codes "none") registry AnyType any.taken ms >>= λ none.
    clause (codes "disabled") registry Enableable none.taken ms >>= λ disabled.
    clause (codes "absent") registry AnyType disabled.taken ms >>= λ absent.
    Ok (record { all = all.found; any = any.found; none = none.found; disabled = disabled.found; absent = absent.found })

-- the types that each visited row has
abbrev pub bound_types : Clauses → List ℕ
bound_types c = fold (λ set ty. with_type set ty) c.all c.disabled

-- ---- the filters

-- types of `all` that aren't shared
abbrev pub changed_types : List TypeInfo → List ℕ → Data → Reading (List ℕ)
changed_types registry all d = changed (λ n. n.found) (type_list MOST_CHANGED registry (UnsharedOf all) [] d)

-- an integer in the range of its field
abbrev pub shared_value : FieldKind → Data → Reading Value
shared_value kind (integer z) = unless (fault_if (not (fits_field kind (Int z))) NumberRange) (Ok (Int z))
shared_value kind d = Err (bad WrongType)

-- one value for each field
abbrev pub shared_values_from : ℕ → List FieldInfo → Items → Reading (List Value)
shared_values_from i fields ds = field_values_from shared_value i fields ds

abbrev pub shared_values : List FieldInfo → Items → Reading (List Value)
shared_values fields ds = field_values shared_value fields ds

abbrev pub shared_part_of : List TypeInfo → Items → ℕ → Reading Part
shared_part_of registry ds ty =
    changed (λ vs. record { ty = record { 0 = ty }; values = vs }) (shared_values (type_at registry ty).fields ds)

-- a shared type of `all`, with its values
abbrev pub shared_part : List TypeInfo → List ℕ → List ℕ → Data → Reading Part
shared_part registry all key d =
    list d >>= λ ds.
    type_of_key registry (SharedOf all) key >>= λ ty.
    shared_part_of registry ds ty

-- shared types of `all`, with their values
abbrev pub shared_table : List TypeInfo → List ℕ → Data → Reading (List Part)
shared_table registry all d = members_up_to MOST_SHARED_FILTERS d >>= each_member (shared_part registry all)

abbrev pub filters : List TypeInfo → List ℕ → Members → Reading Filters
filters registry all ms =
    optional (codes "include_disabled") false truth ms >>= λ d.
    optional (codes "include_prefab") false truth ms >>= λ p.
    optional (codes "changed") [] (changed_types registry all) ms >>= λ c.
    optional (codes "order_changed") false truth ms >>= λ o.
    optional (codes "shared") [] (shared_table registry all) ms >>= λ s.
    Ok (record { include_disabled = d; include_prefab = p; changed = c; order_changed = o; shared = s })
