-- Which parts a row may have.
use Rattle.std.specs.Prelude.{◌≡◌, ℕ, ◌<◌, true, List, length}
use Rattle.ent_types.specs.declared.type_info.TypeInfo.{TypeInfo}
use Rattle.ent_types.specs.declared.value.Value.{Value}
use Rattle.ent_types.specs.Fitting.{fits_fields, fits_type}
use Rattle.ent_types.specs.Registries.{type_at}
use Rattle.ent_types.specs.TypeLookups.{fields_at, is_buffer_at}
use Rattle.world_model.specs.Part.{PartOf}

-- the type is one of the registry
abbrev pub IsKnown : List TypeInfo → ℕ → Type 0
IsKnown registry t = t < length registry

-- the values fit the type: one for each field, or, for a buffer, those of its elements, of which it has not too many
abbrev pub Fits : List TypeInfo → ℕ → List Value → Type 0
Fits registry t values = fits_type (type_at registry t) values ≡ true

-- a part of a known type, whose values fit
pub record IsFitting (registry : List TypeInfo) (p : PartOf Value) : Type 0 where
  pub known : IsKnown registry p.type_id
  pub fit : Fits registry p.type_id p.values

-- one element of a known buffer type
pub record IsElement (registry : List TypeInfo) (p : PartOf Value) : Type 0 where
  pub known : IsKnown registry p.type_id
  pub buffer : is_buffer_at registry p.type_id ≡ true
  pub fit : fits_fields (fields_at registry p.type_id) p.values ≡ true
