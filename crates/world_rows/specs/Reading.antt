-- Rows that are read from a store.
use Rattle.std.specs.Prelude.{ℕ, ◌≡◌, ◌<◌, ◌&&◌, List, length, map}
use Rattle.ent_types.specs.declared.type_info.TypeInfo.{TypeInfo}
use Rattle.ent_types.specs.declared.value.Value.{Value}
use Rattle.ent_types.specs.TypeSets.{has_type}
use Rattle.world_model.specs.Found.{Found}
use Rattle.world_model.specs.Lawful.{IsLawfulRow}
use Rattle.world_model.specs.Part.{PartOf}
use Rattle.chunk_block.specs.Blocks.{new_types, row_in, is_off}
use Rattle.archetype_store.specs.Stores.{Numbered}
use Rattle.world_places.specs.Placing.{home_of}
use Rattle.world_rows.specs.Rows.{part_in}

-- a row of a block, with its home
abbrev pub found_at : ℕ → Numbered → Found
found_at k b = record { home = home_of b; row = row_in k b.block.rows }

-- the block has the row, nothing of it is lent, and the row is lawful
pub record CanRead (registry : List TypeInfo) (k : ℕ) (b : Numbered) : Type 0 where
  pub there : k < length b.block.rows
  pub columns : b.block.columns ≡ new_types registry b.block.types
  pub lawful : IsLawfulRow registry (found_at k b)

abbrev pub parts_in : ℕ → Numbered → List ℕ → List (PartOf Value)
parts_in k b types = map (part_in (found_at k b)) types

-- these are the types among some types that are disabled in the row
abbrev pub AreOff : ℕ → List ℕ → List ℕ → Numbered → Type 0
AreOff k types off b = (t : ℕ) → has_type off t ≡ (has_type types t && is_off t (row_in k b.block.rows))
