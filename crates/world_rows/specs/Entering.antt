-- How a row enters a store.
use Rattle.std.specs.Prelude.{ℕ, ◌≡◌, ◌<◌, List, length, map}
use Rattle.ent_types.specs.declared.type_info.TypeInfo.{TypeInfo}
use Rattle.ent_types.specs.declared.value.Value.{Value}
use Rattle.world_model.specs.Members.{In}
use Rattle.world_model.specs.World.{mark_type}
use Rattle.chunk_block.specs.Blocks.{BlockState, new_types}
use Rattle.entity_table.specs.declared.table.Place.{Place}
use Rattle.world_model.specs.Part.{PartOf}
use Rattle.world_model.specs.Row.{Row}
use Rattle.archetype_store.specs.Stores.{Numbered, StoreState, OfBlock, HasBlocks, Opens, with_block}
use Rattle.world_places.specs.Placing.{row_entered}

-- nothing of a block is lent, and there is a mark for each type
pub record IsWhole (registry : List TypeInfo) (b : BlockState) : Type 0 where
  pub columns : b.columns ≡ new_types registry b.types
  pub marked : map mark_type b.marks ≡ b.types

abbrev pub AreWhole : List TypeInfo → List Numbered → Type 0
AreWhole registry blocks = (b : Numbered) → In b blocks → IsWhole registry b.block

-- a block of some types has room for a row
pub record IsOpen (registry : List TypeInfo) (types : List ℕ) (b : BlockState) : Type 0 where
  pub types_are : b.types ≡ types
  pub columns : b.columns ≡ new_types registry types
  pub marked : map mark_type b.marks ≡ types
  pub room : length b.rows < b.capacity

-- The row has entered the block that has room for it, at the place. Before it entered, that block may have been added without rows.
pub record Enters (old new : StoreState) (a : ℕ) (shared : List (PartOf Value)) (now : ℕ) (row : Row) (p : Place) : Type 0 where
  pub opened : StoreState
  pub opens : Opens old opened a shared p.block
  pub last : OfBlock p.block (λ b. p.row ≡ length b.rows) opened.blocks
  pub blocks : HasBlocks opened new (with_block p.block (row_entered now row) opened.blocks)
