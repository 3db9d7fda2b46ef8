-- The blocks of a world by their numbers, and what is seen of them.
use Rattle.std.specs.Prelude.{ℕ, ◌≡◌, if◌then◌else◌, nat_eq, List, [], ◌∷◌}
use Rattle.std.specs.Bool.{MatchBool}
use Rattle.std.specs.Option.{IfSome}
use Rattle.ent_types.specs.declared.type_info.TypeInfo.{TypeInfo}
use Rattle.world_model.specs.Members.{In}
use Rattle.world_model.specs.World.{Block, capacity}
use Rattle.world_model.specs.Write.{marked}
use Rattle.chunk_block.specs.Blocks.{BlockState, new_types}
use Rattle.archetype_store.specs.Stores.{Numbered, StoreState}
use Rattle.world_places.specs.Placing.{world_block, world_blocks, numbers_of}
use Rattle.structural_ops.specs.Worlds.{WorldState}

-- ---- one block by its number

-- there is a block of this number, of which this holds
abbrev pub OfNumbered : ℕ → (Block → Type 0) → List ℕ → List Block → Type 0
OfNumbered n P [] bs = ⊥
OfNumbered n P (m ∷ ms) [] = ⊥
OfNumbered n P (m ∷ ms) (b ∷ bs) = MatchBool (nat_eq m n) (P b) (OfNumbered n P ms bs)

abbrev pub HasBlock : ℕ → (Block → Type 0) → WorldState → Type 0
HasBlock n P w = OfNumbered n P w.numbers w.world.blocks

-- ---- blocks changed by their numbers

abbrev pub by_number : (ℕ → Block → Block) → List ℕ → List Block → List Block
by_number f [] bs = bs
by_number f (m ∷ ms) [] = []
by_number f (m ∷ ms) (b ∷ bs) = f m b ∷ by_number f ms bs

-- a world whose blocks are changed by their numbers
abbrev pub with_each : (ℕ → Block → Block) → WorldState → WorldState
with_each f w = record w { world = record (w.world) { blocks = by_number f w.numbers w.world.blocks } }

-- some types of the block of this number marked
abbrev pub types_written : ℕ → ℕ → List ℕ → ℕ → Block → Block
types_written n now types m b = if nat_eq m n then record b { marks = marked now types b.marks } else b

-- ---- what is seen of a block and of a store

-- a block of which nothing is lent
abbrev pub whole_block : List TypeInfo → Block → BlockState
whole_block registry b = record {
  types = b.home.types;
  columns = new_types registry b.home.types;
  capacity = capacity registry b.home.types;
  rows = b.rows;
  marks = b.marks;
  order = b.order;
}

-- the store has the blocks of the world, and nothing of them is lent
pub record IsStoreOf (w : WorldState) (s : StoreState) : Type 0 where
  pub blocks : world_blocks s.blocks ≡ w.world.blocks
  pub numbers : numbers_of s.blocks ≡ w.numbers
  pub archetypes : s.archetypes ≡ w.archetypes
  pub whole : (b : Numbered) → In b s.blocks → b.block ≡ whole_block w.world.registry (world_block b)
  pub registered : IfSome s.registry (λ r. r ≡ w.world.registry)
