-- The line of the row at a place.
use Rattle.std.specs.Prelude.{ℕ, List, [], Option, Some, None}
use Rattle.ent_types.specs.declared.type_info.TypeInfo.{TypeInfo}
use Rattle.entity_table.specs.declared.table.Place.{Place}
use Rattle.world_model.specs.Found.{Found}
use Rattle.archetype_store.specs.Stores.{Numbered}
use Rattle.world_places.specs.Placing.{numbers_of, world_blocks}
use Rattle.structural_ops.specs.Places.{found_in}
use Rattle.world_text.specs.Lines.{row_line}

-- the line of a row; nothing where there is none
abbrev pub line_of : List TypeInfo → Option Found → List ℕ
line_of registry None = []
line_of registry (Some x) = row_line registry x

-- the line of the row at a place of a store
abbrev pub line_at : List TypeInfo → List Numbered → Place → List ℕ
line_at registry blocks p = line_of registry (found_in p (numbers_of blocks) (world_blocks blocks))
