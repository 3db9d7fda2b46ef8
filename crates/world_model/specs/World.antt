-- The world: rows in blocks, and what is given to new entities.
use Rattle.std.specs.Prelude.{ℕ, ◌+◌, List, [], map}
use Rattle.chunk_layout.specs.Capacity.{capacity_of}
use Rattle.ent_types.specs.declared.entity.Entity.{Entity}
use Rattle.ent_types.specs.declared.value.Value.{Value}
use Rattle.ent_types.specs.declared.type_info.TypeInfo.{TypeInfo}
use Rattle.ent_types.specs.Registries.{type_at}
use Rattle.ent_types.specs.Types.{column_size}
use Rattle.world_model.specs.Part.{PartOf}
use Rattle.world_model.specs.Row.{Row}

-- where a row belongs: its types, and the values of its shared types, both by rising type
pub record Home : Type 0 where
  pub types : List ℕ
  pub shared : List (PartOf Value)

-- the moment at which a type of a block was last written
pub record Mark : Type 0 where
  pub type_id : ℕ
  pub moment : ℕ

-- A block: rows with one home. It has one mark for each type, by rising type, and one for the order of its rows.
pub record Block : Type 0 where
  pub home : Home
  pub marks : List Mark
  pub rows : List Row
  pub order : ℕ

-- The world: its types, where type t is at place t; the blocks in order; the free entities, the one freed last first;
-- how many fresh indexes were made; the version that a fresh index has; and the present moment.
pub record World : Type 0 where
  pub registry : List TypeInfo
  pub blocks : List Block
  pub free : List Entity
  pub made : ℕ
  pub first_entity_version : ℕ
  pub moment : ℕ

abbrev pub mark_type : Mark → ℕ
mark_type m = m.type_id

-- The empty world. A run begins at moment 1. The code has the first system version in its place.
abbrev pub empty_world : List TypeInfo → ℕ → ℕ → World
empty_world registry first_entity_version moment = record {
  registry = registry;
  blocks = [];
  free = [];
  made = 0;
  first_entity_version = first_entity_version;
  moment = moment;
}

-- The next moment, without any other change. The code has the next version in its place.
abbrev pub raised : World → World
raised w = record w { moment = w.moment + 1 }

-- how many rows of these types fit into one block; a type without a column takes no bytes
abbrev pub capacity : List TypeInfo → List ℕ → ℕ
capacity registry types = capacity_of (map (λ t. column_size (type_at registry t)) types)
