-- Why a registry refuses a type.
use Rattle.std.specs.Prelude.{ℕ, ◌≡◌, List, nat_lt, nat_le, length, Option, Some, None, is_some, if◌then◌else◌}
use Rattle.ent_types.specs.declared.type_info.TypeInfo.{TypeInfo}
use Rattle.ent_types.specs.declared.registry.RegistryFault.{RegistryFault}
use Rattle.ent_types.specs.declared.registry.RegistryFault.TheVariants.{TooWide, Duplicate, TooManyTypes, Memory}
use Rattle.ent_types.specs.declared.limits.TheConstants.{MOST_FIELDS, MOST_TYPES}
use Rattle.ent_types.specs.Registries.{type_named}

-- the first ground on which a registry of these types refuses one more
unfoldable pub refusal : List TypeInfo → TypeInfo → Option RegistryFault
refusal types info =
    if nat_lt MOST_FIELDS (length info.fields) then Some TooWide
    else if is_some (type_named types info.name) then Some Duplicate
    else if nat_le MOST_TYPES (length types) then Some TooManyTypes
    else None

-- this fault is the one that is due; Memory is due only if no other fault is
abbrev pub IsDue : Option RegistryFault → RegistryFault → Type 0
IsDue first TooWide = first ≡ Some TooWide
IsDue first Duplicate = first ≡ Some Duplicate
IsDue first TooManyTypes = first ≡ Some TooManyTypes
IsDue first Memory = first ≡ None
