-- The ids of entities: the next id, the free list after an entity ended, and how many more entities can be made.
use Rattle.std.specs.Prelude.{ℕ, zero, suc, ◌+◌, ◌-◌, min, List, [], ◌∷◌, length, drop, if◌then◌else◌, nat_eq}
use Rattle.ent_types.specs.declared.entity.Entity.{Entity}
use Rattle.ent_types.specs.declared.limits.TheConstants.{LAST_ENTITY_VERSION, MOST_ENTITIES, MOST_INDEXES}
use Rattle.world_model.specs.World.{World}
use Rattle.world_model.specs.Found.{alive_count}

-- the id of a new entity, with the ids that are left
pub record Given : Type 0 where
  pub entity : Entity
  pub free : List Entity
  pub made : ℕ

-- the id of the next entity: the one that was freed last, or else the next fresh index with the first version
abbrev pub take_id : List Entity → ℕ → ℕ → Given
take_id (e ∷ es) made first = record { entity = e; free = es; made = made }
take_id [] made first = record { entity = record { index = made; version = first }; free = []; made = made + 1 }

-- the ids of the next n entities
abbrev pub next_ids : ℕ → List Entity → ℕ → ℕ → List Entity
next_ids zero free made first = []
next_ids (suc n) free made first =
    (take_id free made first).entity ∷ next_ids n (take_id free made first).free (take_id free made first).made first

-- The free list after an entity ended: its index with the version raised by 1 comes first. An index with the last version
-- is retired.
abbrev pub give_id : Entity → List Entity → List Entity
give_id e free = if nat_eq e.version LAST_ENTITY_VERSION then free else (record { index = e.index; version = e.version + 1 } ∷ free)

-- how many entities can be made: at most MOST_ENTITIES are alive, and at most MOST_INDEXES indexes are made
abbrev pub room_of : ℕ → ℕ → ℕ → ℕ
room_of alive free made = min (MOST_ENTITIES - alive) (free + (MOST_INDEXES - made))

-- ---- the same in a world

abbrev pub room : World → ℕ
room w = room_of (alive_count w) (length w.free) w.made

abbrev pub given_by : World → Given
given_by w = take_id w.free w.made w.first_entity_version

-- the id of the entity that is made next
abbrev pub next_id : World → Entity
next_id w = (given_by w).entity

-- the world after that id was taken
abbrev pub with_id_taken : World → World
with_id_taken w = record w { free = (given_by w).free; made = (given_by w).made }

-- the world after n ids were taken: the first of the free ones, then fresh indexes
abbrev pub with_ids_taken : ℕ → World → World
with_ids_taken n w = record w { free = drop n w.free; made = w.made + (n - length w.free) }

-- the world with the id of an entity that ended
abbrev pub with_id_given : Entity → World → World
with_id_given e w = record w { free = give_id e w.free }
