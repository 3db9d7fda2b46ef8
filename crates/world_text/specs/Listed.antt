-- What the line of a block reads of the block.
use Rattle.std.specs.Prelude.{ℕ, ◌≡◌, ◌<◌, List}
use Rattle.ent_types.specs.declared.type_info.TypeInfo.{TypeInfo}
use Rattle.world_model.specs.Fits.{IsKnown}
use Rattle.world_model.specs.Members.{In}
use Rattle.world_model.specs.World.{capacity}
use Rattle.chunk_block.specs.Blocks.{BlockState}

-- the types of the block are known, and a row of them fits into it
pub record IsListed (registry : List TypeInfo) (b : BlockState) : Type 0 where
  pub known : (t : ℕ) → In t b.types → IsKnown registry t
  pub room : 0 < capacity registry b.types
  pub capacity_is : b.capacity ≡ capacity registry b.types
