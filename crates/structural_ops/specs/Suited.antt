-- What is tested of parts before a call takes them.
use Rattle.std.specs.Prelude.{ℕ, Bool, true, not, ◌&&◌, nat_lt, List, [], ◌∷◌, length}
use Rattle.ent_types.specs.declared.type_info.TypeInfo.{TypeInfo}
use Rattle.ent_types.specs.declared.value.Value.{Value}
use Rattle.ent_types.specs.Fitting.{fits_fields, fits_type}
use Rattle.ent_types.specs.Registries.{type_at}
use Rattle.ent_types.specs.TypeLookups.{fields_at, is_buffer_at}
use Rattle.ent_types.specs.TypeSets.{has_type, with_type}
use Rattle.world_model.specs.Part.{PartOf}

abbrev pub fits_part : List TypeInfo → PartOf Value → Bool
fits_part registry p = nat_lt p.type_id (length registry) && fits_type (type_at registry p.type_id) p.values

-- one element of a buffer type
abbrev pub fits_element : List TypeInfo → PartOf Value → Bool
fits_element registry p =
    nat_lt p.type_id (length registry) && (is_buffer_at registry p.type_id && fits_fields (fields_at registry p.type_id) p.values)

-- all parts fit, and no type is in the set, or there twice
abbrev pub parts_suit : List TypeInfo → List ℕ → List (PartOf Value) → Bool
parts_suit registry taken [] = true
parts_suit registry taken (p ∷ ps) =
    fits_part registry p && (not (has_type taken p.type_id) && parts_suit registry (with_type taken p.type_id) ps)
