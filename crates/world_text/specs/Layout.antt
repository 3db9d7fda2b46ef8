-- The lines of a layout: which blocks a world has, and where the columns of their types begin.
use Rattle.std.specs.Prelude.{ℕ, ◌+◌, if◌then◌else◌, List, [], ◌∷◌, ◌++◌, codes, length, map, zip}
use Rattle.std.specs.List.{flat_map}
use Rattle.std.specs.Fmt.{decimal}
use Rattle.chunk_layout.specs.Places.{layout_of}
use Rattle.ent_types.specs.declared.type_info.TypeInfo.{TypeInfo}
use Rattle.ent_types.specs.Registries.{type_at}
use Rattle.ent_types.specs.TypeLookups.{column_size_at, has_column_at}
use Rattle.world_model.specs.World.{Block, World, capacity}

-- ` NAME@PLACE` for a type with a column, and ` NAME` for another one
unfoldable pub column_text : List TypeInfo → ℕ × ℕ → List ℕ
column_text registry c = codes " " ++ ((type_at registry c.0).name ++ (if has_column_at registry c.0 then codes "@" ++ decimal c.1 else []))

-- where the columns of some types begin; a type without a column takes no bytes
abbrev pub places_of : List TypeInfo → List ℕ → List ℕ
places_of registry types = (layout_of (map (column_size_at registry) types)).places

-- the line of the block at place k: how many rows it has and can have, and its types
unfoldable pub block_line : List TypeInfo → ℕ → List ℕ → ℕ → List ℕ
block_line registry k types rows =
    codes "block " ++ (decimal k ++ (codes " rows=" ++ (decimal rows ++ (codes " capacity=" ++ (decimal (capacity registry types)
    ++ (codes " ids@64" ++ (flat_map (column_text registry) (zip types (places_of registry types)) ++ codes "\n")))))))

-- the lines of the blocks, the first of which is at place k
abbrev pub block_lines : List TypeInfo → ℕ → List Block → List ℕ
block_lines registry k [] = []
block_lines registry k (b ∷ bs) = block_line registry k b.home.types (length b.rows) ++ block_lines registry (k + 1) bs

unfoldable pub layout_line : ℕ → List ℕ
layout_line blocks = codes "layout blocks=" ++ (decimal blocks ++ codes "\n")

-- the lines of the layout of a world: the number of its blocks, and each of them in block order
unfoldable pub layout_text : World → List ℕ
layout_text w = layout_line (length w.blocks) ++ block_lines w.registry 0 w.blocks
