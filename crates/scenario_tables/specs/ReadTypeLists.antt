-- Lists of type names, and the tables whose keys are type names.
use Rattle.std.specs.Prelude.{ℕ, Bool, true, not, ◌&&◌, ◌==◌, List, [], Ok}
use Rattle.toml.specs.Data.{Data}
use Rattle.ent_types.specs.declared.type_info.TypeInfo.{TypeInfo}
use Rattle.ent_types.specs.Registries.{type_at, type_named}
use Rattle.ent_types.specs.declared.entity.TheConstants.TypeId.{SCENE_TAG}
use Rattle.ent_types.specs.Types.{is_shared}
use Rattle.ent_types.specs.TypeSets.{has_type, with_type}
use Rattle.scenario_record.specs.declared.fault.Cause.TheVariants.{UnknownName, BadKind, DuplicateName}
use Rattle.scenario_record.specs.Readings.{Reading, ◌>>=◌, unless, or_fault, fault_if}
use Rattle.scenario_tables.specs.declared.type_lists.Allowed.{Allowed}
use Rattle.scenario_tables.specs.declared.type_lists.Allowed.TheVariants.{AnyType, Spawned, Enableable, UnsharedOf, SharedOf, EnableableOf}
use Rattle.scenario_tables.specs.declared.type_lists.Named.{Named}
use Rattle.scenario_tables.specs.ReadKeys.{name, name_in, list_up_to, each_over}

-- whether a type of the registry is allowed at a place
abbrev pub is_allowed : List TypeInfo → Allowed → ℕ → Bool
is_allowed registry AnyType ty = true
is_allowed registry Spawned ty = not (ty == SCENE_TAG.0)
is_allowed registry Enableable ty = (type_at registry ty).enableable
is_allowed registry (UnsharedOf types) ty = has_type types ty && not (is_shared (type_at registry ty).kind)
is_allowed registry (SharedOf types) ty = has_type types ty && is_shared (type_at registry ty).kind
is_allowed registry (EnableableOf types) ty = has_type types ty && (type_at registry ty).enableable

abbrev pub allowed_type : List TypeInfo → Allowed → ℕ → Reading ℕ
allowed_type registry allowed ty = unless (fault_if (not (is_allowed registry allowed ty)) BadKind) (Ok ty)

-- the type of a name
abbrev pub known_type : List TypeInfo → Allowed → List ℕ → Reading ℕ
known_type registry allowed n = or_fault UnknownName (type_named registry n) >>= allowed_type registry allowed

-- the type that a key names
abbrev pub type_of_key : List TypeInfo → Allowed → List ℕ → Reading ℕ
type_of_key registry allowed key = name_in key >>= known_type registry allowed

-- a type that no name before it names
abbrev pub new_type_in : List ℕ → ℕ → Reading ℕ
new_type_in taken ty = unless (fault_if (has_type taken ty) DuplicateName) (Ok ty)

abbrev pub type_of_item : List TypeInfo → Allowed → List ℕ → Data → Reading ℕ
type_of_item registry allowed taken d = name d >>= λ n. known_type registry allowed n >>= new_type_in taken

-- The types that a list names, each once and none of those that were taken before. What was taken grows with them.
abbrev pub found_one : Named → ℕ → Named
found_one named ty = record { taken = with_type named.taken ty; found = with_type named.found ty }

abbrev pub one_more_type : List TypeInfo → Allowed → Named → Data → Reading Named
one_more_type registry allowed named d = type_of_item registry allowed named.taken d >>= λ ty. Ok (found_one named ty)

-- nothing is found yet
abbrev pub none_beside : List ℕ → Named
none_beside taken = record { taken = taken; found = [] }

-- a list of at most `most` types
abbrev pub type_list : ℕ → List TypeInfo → Allowed → List ℕ → Data → Reading Named
type_list most registry allowed taken d =
    list_up_to most d >>= each_over (one_more_type registry allowed) (none_beside taken) 0
