-- What contracts see of a world of the code.
use Rattle.std.specs.Prelude.{ℕ, ◌≡◌, true, false, nat_eq, List, ◌++◌, Option, Some, option_map, Result, Ok, Err}
use Rattle.std.specs.Option.{IfSome}
use Rattle.ent_types.specs.declared.entity.Entity.{Entity}
use Rattle.ent_types.specs.declared.skip.Skip.{Skip}
use Rattle.ent_types.specs.declared.skip.Skip.TheVariants as skip
use Rattle.world_model.specs.World.{Home, World, capacity}
use Rattle.world_model.specs.Found.{found}
use Rattle.world_model.specs.Row.{Row, Cell}
use Rattle.world_model.specs.Ids.{room, next_id}
use Rattle.world_model.specs.Operations.{Operation, Reply, Answer, Made, Done, Skipped, operate, moved_to, written, made as made_world}
use Rattle.world_model.specs.Versions.{IsLawfulCode}
use Rattle.ent_types.specs.TypeSets.{has_type}
use Rattle.entity_table.specs.declared.table.Place.{Place}
use Rattle.entity_table.specs.Table.{place_of}
use Rattle.chunk_block.specs.Blocks.{row_in}
use Rattle.archetype_store.specs.Stores.{Numbered}
use Rattle.world_places.specs.Placing.{IsPlaced, world_of, numbers_of, number_in}
use Rattle.structural_ops.specs.declared.fault.OpFault.{OpFault}
use Rattle.structural_ops.specs.declared.fault.OpFault.TheVariants as fault
use Rattle.structural_ops.specs.declared.tables.Tables.{Tables}

-- A world of the code: it has versions where the model has moments. `numbers` has the number of each block, in block order, and `archetypes` the types
-- of each archetype by its id.
pub record WorldState : Type 0 where
  pub world : World
  pub numbers : List ℕ
  pub archetypes : List (List ℕ)

abbrev pub state_of : Tables → WorldState
state_of w = record {
  world = world_of w.registry w.store.blocks w.table.table w.version.0;
  numbers = numbers_of w.store.blocks;
  archetypes = w.store.archetypes;
}

-- the table, the blocks and the registries agree
pub record Agrees (w : Tables) : Type 0 where
  pub placed : IsPlaced w.registry w.store.blocks w.table.table
  pub registered : IfSome w.store.registry (λ r. r ≡ w.registry)

-- what always holds
pub record IsConsistent (w : Tables) : Type 0 where
  pub agrees : Agrees w
  pub lawful : IsLawfulCode (capacity w.registry) (world_of w.registry w.store.blocks w.table.table w.version.0)

-- ---- what an operation leaves

-- there are more archetypes, or as many
pub record Grows (old new : List (List ℕ)) : Type 0 where
  pub more : List (List ℕ)
  pub are : new ≡ old ++ more

-- nothing changed, but that archetypes may have been made
pub record Stays (old new : WorldState) : Type 0 where
  pub world : new.world ≡ old.world
  pub numbers : new.numbers ≡ old.numbers
  pub archetypes : Grows old.archetypes new.archetypes

-- the number of the block in which an entity is; none where it isn't alive
abbrev pub number_of : WorldState → Entity → Option ℕ
number_of w e = number_in w.world.blocks w.numbers e

abbrev pub home_in : WorldState → Entity → Option Home
home_in w e = option_map (λ x. x.home) (found e w.world.blocks)

-- A number names its block as long as the block is there: an entity whose home stays is in the block of the same number.
abbrev pub KeepsNumbers : WorldState → WorldState → Type 0
KeepsNumbers old new = (e : Entity) → home_in new e ≡ home_in old e → number_of new e ≡ number_of old e

-- the world of the answer, and more archetypes or as many
pub record Becomes (old new : WorldState) (world : World) : Type 0 where
  pub world_is : new.world ≡ world
  pub numbers : KeepsNumbers old new
  pub archetypes : Grows old.archetypes new.archetypes

abbrev pub after : WorldState → Operation → Answer
after old operation = operate (capacity old.world.registry) old.world operation

-- the operation gives this reply and this world; a fault leaves the world as it is
abbrev pub GivesAnswer : WorldState → WorldState → Answer → Result Reply OpFault → Type 0
GivesAnswer old new answer (Ok reply) = (answer.reply ≡ reply) × Becomes old new answer.world
GivesAnswer old new answer (Err (fault.Skip cause)) = (answer ≡ record { world = old.world; reply = Skipped cause }) × Stays old new
GivesAnswer old new answer (Err fault.Memory) = Stays old new

abbrev pub Gives : WorldState → WorldState → Operation → Result Reply OpFault → Type 0
Gives old new operation result = GivesAnswer old new (after old operation) result

abbrev pub made : Result Entity OpFault → Result Reply OpFault
made (Ok e) = Ok (Made e)
made (Err f) = Err f

abbrev pub done : Result (Unit {0}) OpFault → Result Reply OpFault
done (Ok u) = Ok Done
done (Err f) = Err f

-- the same of an operation that takes no memory
abbrev pub GivesAlways : WorldState → WorldState → Operation → Result (Unit {0}) Skip → Type 0
GivesAlways old new operation (Ok u) =
    (after old operation ≡ record { world = new.world; reply = Done }) × ((new.numbers ≡ old.numbers) × (new.archetypes ≡ old.archetypes))
GivesAlways old new operation (Err cause) = (after old operation ≡ record { world = old.world; reply = Skipped cause }) × (new ≡ old)

-- a row was written in its place, and some types marked
pub record WritesIn (old new : WorldState) (types : List ℕ) (row : Row) : Type 0 where
  pub world : new.world ≡ written types row old.world
  pub numbers : new.numbers ≡ old.numbers
  pub archetypes : new.archetypes ≡ old.archetypes

-- the block has the row of an entity that is found there, and the type
pub record CanPut (w : Tables) (t : ℕ) (p : Place) (b : Numbered) : Type 0 where
  pub place : place_of w.table.table (row_in p.row b.block.rows).entity ≡ Some p
  pub has : has_type b.block.types t ≡ true

-- ---- what a row that is made or moves leaves

-- a row of a new entity was made, or there was no room
abbrev pub Makes : WorldState → WorldState → Home → List Cell → Result Entity OpFault → Type 0
Makes old new home cells (Ok e) =
    (e ≡ next_id old.world) × ((nat_eq (capacity old.world.registry home.types) 0 ≡ false) × ((nat_eq (room old.world) 0 ≡ false)
    × Becomes old new (made_world (capacity old.world.registry) home cells old.world)))
Makes old new home cells (Err (fault.Skip skip.TooLarge)) = (nat_eq (capacity old.world.registry home.types) 0 ≡ true) × Stays old new
Makes old new home cells (Err (fault.Skip skip.Full)) =
    ((nat_eq (capacity old.world.registry home.types) 0 ≡ false) × (nat_eq (room old.world) 0 ≡ true)) × Stays old new
Makes old new home cells (Err (fault.Skip skip.NoEntity)) = ⊥
Makes old new home cells (Err (fault.Skip skip.NoComponent)) = ⊥
Makes old new home cells (Err (fault.Skip skip.NotEnableable)) = ⊥
Makes old new home cells (Err (fault.Skip skip.TooLong)) = ⊥
Makes old new home cells (Err fault.Memory) = Stays old new

-- a row moved to another home, or no block takes such a row
abbrev pub MovesTo : WorldState → WorldState → Home → Row → Result (Unit {0}) OpFault → Type 0
MovesTo old new home row (Ok u) =
    (nat_eq (capacity old.world.registry home.types) 0 ≡ false) × Becomes old new (moved_to (capacity old.world.registry) home row old.world)
MovesTo old new home row (Err (fault.Skip skip.TooLarge)) = (nat_eq (capacity old.world.registry home.types) 0 ≡ true) × Stays old new
MovesTo old new home row (Err (fault.Skip skip.Full)) = ⊥
MovesTo old new home row (Err (fault.Skip skip.NoEntity)) = ⊥
MovesTo old new home row (Err (fault.Skip skip.NoComponent)) = ⊥
MovesTo old new home row (Err (fault.Skip skip.NotEnableable)) = ⊥
MovesTo old new home row (Err (fault.Skip skip.TooLong)) = ⊥
MovesTo old new home row (Err fault.Memory) = Stays old new
