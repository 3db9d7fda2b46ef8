-- A new row as parts and bits give it.
use Rattle.std.specs.Prelude.{ℕ, ◌≡◌, Bool, true, not, List, [], filter, map, unwrap_or}
use Rattle.ent_types.specs.declared.entity.Entity.{Entity}
use Rattle.ent_types.specs.declared.type_info.TypeInfo.{TypeInfo}
use Rattle.ent_types.specs.declared.value.Value.{Value}
use Rattle.ent_types.specs.TypeLookups.{is_shared_at, is_enableable_at}
use Rattle.ent_types.specs.TypeSets.{has_type}
use Rattle.world_model.specs.Fits.{IsKnown, Fits}
use Rattle.world_model.specs.Found.{Found, part_at, values_of}
use Rattle.world_model.specs.Members.{In}
use Rattle.world_model.specs.Part.{PartOf}
use Rattle.world_model.specs.Row.{Row, Cell}
use Rattle.world_model.specs.World.{Home}
use Rattle.archetype_store.specs.Stores.{shared_types}

-- the values of a type among some parts; of two parts of one type the first counts
abbrev pub values_at : ℕ → List (PartOf Value) → List Value
values_at t parts = unwrap_or (part_at t parts) []

-- the types that aren't shared
abbrev pub own_types : List TypeInfo → List ℕ → List ℕ
own_types registry types = filter (λ t. not (is_shared_at registry t)) types

abbrev pub cell_from : List (PartOf Value) → List ℕ → ℕ → Cell
cell_from parts off t = record { type_id = t; values = values_at t parts; off = has_type off t }

-- the cells of a row with these types
abbrev pub cells_from : List TypeInfo → List ℕ → List (PartOf Value) → List ℕ → List Cell
cells_from registry types parts off = map (cell_from parts off) (own_types registry types)

abbrev pub part_from : List (PartOf Value) → ℕ → PartOf Value
part_from parts t = record { type_id = t; values = values_at t parts }

-- the values of its shared types
abbrev pub shared_from : List TypeInfo → List ℕ → List (PartOf Value) → List (PartOf Value)
shared_from registry types parts = map (part_from parts) (shared_types registry types)

abbrev pub home_from : List TypeInfo → List ℕ → List (PartOf Value) → Home
home_from registry types parts = record { types = types; shared = shared_from registry types parts }

abbrev pub row_from : List TypeInfo → List ℕ → List (PartOf Value) → List ℕ → Entity → Bool → Row
row_from registry types parts off e dying = record { entity = e; cells = cells_from registry types parts off; dying = dying }

-- what a row has of a type
abbrev pub part_in : Found → ℕ → PartOf Value
part_in x t = record { type_id = t; values = unwrap_or (values_of t x) [] }

-- the row has a part for each of these types, of which it can have the bits
pub record AreParts (registry : List TypeInfo) (types : List ℕ) (parts : List (PartOf Value)) (off : List ℕ) : Type 0 where
  pub known : (t : ℕ) → In t types → IsKnown registry t
  pub fit : (t : ℕ) → In t types → Fits registry t (values_at t parts)
  pub bits : (t : ℕ) → In t types → has_type off t ≡ true → is_enableable_at registry t ≡ true
