-- Where the columns of a block stand, in bytes from the block's start.
use Rattle.std.specs.Prelude.{ℕ, ◌+◌, ◌*◌, List, [], ◌∷◌}
use Rattle.chunk_layout.specs.declared.columns.TheConstants.{ID_PLACE}
use Rattle.chunk_layout.specs.Capacity.{up64, column_bytes, capacity_of}

-- what a layout tells: how many rows a block holds, and the place of each column
pub record Layout : Type 0 where
  pub capacity : ℕ
  pub places : List ℕ

-- the places of columns of n rows of which the first stands at this byte: each at the end of the one before
abbrev pub places_from : ℕ → ℕ → List ℕ → List ℕ
places_from start n [] = []
places_from start n (size ∷ sizes) = start ∷ places_from (start + column_bytes n size) n sizes

-- the places of the columns of n rows: the id column begins at ID_PLACE, and they follow it
abbrev pub places_of : ℕ → List ℕ → List ℕ
places_of n sizes = places_from (ID_PLACE + up64 (8 * n)) n sizes

-- the layout of a block whose types have these column sizes
abbrev pub layout_of : List ℕ → Layout
layout_of sizes = record { capacity = capacity_of sizes; places = places_of (capacity_of sizes) sizes }
