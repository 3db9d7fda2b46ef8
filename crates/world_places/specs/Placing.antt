-- How a store's blocks and a table of entities make a world, and what always holds of them.
use Rattle.std.specs.Prelude.{ℕ, ◌≡◌, ◌≤◌, if◌then◌else◌, nat_eq, List, [], ◌∷◌, ◌++◌, length, map, Option, Some, None, option_map, slice_get, slice_set}
use Rattle.std.specs.List.{swap_remove}
use Rattle.ent_types.specs.declared.entity.Entity.{Entity}
use Rattle.ent_types.specs.declared.type_info.TypeInfo.{TypeInfo}
use Rattle.entity_table.specs.declared.table.Place.{Place}
use Rattle.entity_table.specs.Table.{Table, place_of, alive_count, made, with_place}
use Rattle.world_model.specs.Members.{In, AreDistinct}
use Rattle.world_model.specs.Row.{Row}
use Rattle.world_model.specs.World.{Home, Block, World}
use Rattle.world_model.specs.Enter.{marks_at}
use Rattle.world_model.specs.Found.{found, placed}
use Rattle.world_model.specs.Leave.{has_entity}
use Rattle.world_model.specs.Write.{marked}
use Rattle.chunk_block.specs.Blocks.{BlockState, no_row, new_types}
use Rattle.archetype_store.specs.Stores.{Numbered, OfNumber}

-- ---- the world that they make

abbrev pub home_of : Numbered → Home
home_of b = record { types = b.block.types; shared = b.shared }

abbrev pub world_block : Numbered → Block
world_block b = record { home = home_of b; marks = b.block.marks; rows = b.block.rows; order = b.block.order }

abbrev pub world_blocks : List Numbered → List Block
world_blocks blocks = map world_block blocks

abbrev pub world_of : List TypeInfo → List Numbered → Table → ℕ → World
world_of registry blocks table now = record {
  registry = registry;
  blocks = world_blocks blocks;
  free = table.free;
  made = made table;
  first_entity_version = table.first_version;
  moment = now;
}

-- ---- rows by their places

-- the row at a place; none where there is no such block, or no such row in it
abbrev pub row_at : List Numbered → ℕ → ℕ → Option Row
row_at [] n k = None
row_at (b ∷ bs) n k = if nat_eq b.number n then slice_get b.block.rows k else row_at bs n k

abbrev pub entity_at : List Numbered → ℕ → ℕ → Option Entity
entity_at blocks n k = option_map (λ r. r.entity) (row_at blocks n k)

-- an entity has a place in the table where its row stands there, and the other way round
pub record AreAtPlaces (table : Table) (blocks : List Numbered) : Type 0 where
  pub there : (e : Entity) (p : Place) → place_of table e ≡ Some p → entity_at blocks p.block p.row ≡ Some e
  pub found : (e : Entity) (p : Place) → entity_at blocks p.block p.row ≡ Some e → place_of table e ≡ Some p

abbrev pub numbers_of : List Numbered → List ℕ
numbers_of blocks = map (λ b. b.number) blocks

-- of blocks with their numbers: the number of the block in which an entity is; none where it isn't alive
abbrev pub number_in : List Block → List ℕ → Entity → Option ℕ
number_in [] numbers e = None
number_in (b ∷ bs) [] e = None
number_in (b ∷ bs) (n ∷ ns) e = if has_entity e b.rows then Some n else number_in bs ns e

-- what always holds of a store's blocks and the table of their entities
pub record IsPlaced (registry : List TypeInfo) (blocks : List Numbered) (table : Table) : Type 0 where
  pub numbers : AreDistinct (numbers_of blocks)
  -- no block is without rows
  pub filled : (b : Numbered) → In b blocks → 1 ≤ length b.block.rows
  -- nothing is lent
  pub whole : (b : Numbered) → In b blocks → b.block.columns ≡ new_types registry b.block.types
  pub places : AreAtPlaces table blocks
  pub counted : alive_count table ≡ length (placed (world_blocks blocks))

-- the row of an alive entity
pub record IsThere (blocks : List Numbered) (e : Entity) (p : Place) : Type 0 where
  pub block : Numbered
  pub row : Row
  pub member : In block blocks
  pub number : block.number ≡ p.block
  pub at : slice_get block.block.rows p.row ≡ Some row
  pub entity : row.entity ≡ e
  pub is_found : found e (world_blocks blocks) ≡ Some (record { home = home_of block; row = row })
  -- it is the block of the place's number
  pub is : OfNumber p.block (λ b. b ≡ block) blocks

-- ---- what is done to a block

-- another row at a place
abbrev pub with_row : ℕ → Row → BlockState → BlockState
with_row k row b = record b { rows = slice_set b.rows k row }

-- some types marked
abbrev pub types_marked : ℕ → List ℕ → BlockState → BlockState
types_marked now types b = record b { marks = marked now types b.marks }

abbrev pub order_marked : ℕ → BlockState → BlockState
order_marked now b = record b { order = now }

-- one row more
abbrev pub row_pushed : Row → BlockState → BlockState
row_pushed row b = record b { rows = b.rows ++ row ∷ [] }

-- one row more, every type and the order marked
abbrev pub row_entered : ℕ → Row → BlockState → BlockState
row_entered now row b = record b { rows = b.rows ++ row ∷ []; marks = marks_at now b.types; order = now }

-- the entity whose row takes the place of one that leaves
abbrev pub mover_in : ℕ → BlockState → Option Entity
mover_in k b = option_map (λ r. r.entity) (slice_get (swap_remove b.rows k no_row) k)

-- the table after a row has taken another place
abbrev pub with_mover : Option Entity → Place → Table → Table
with_mover None p table = table
with_mover (Some e) p table = with_place table e p
