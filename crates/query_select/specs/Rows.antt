-- Which types are disabled in the rows of a block, and which rows match.
use Rattle.std.specs.Prelude.{ℕ, Bool, false, not, ◌&&◌, if◌then◌else◌, nat_eq, List, [], ◌∷◌, map}
use Rattle.ent_types.specs.declared.type_info.TypeInfo.{TypeInfo}
use Rattle.ent_types.specs.TypeSets.{has_type}
use Rattle.world_model.specs.Row.{Row}
use Rattle.world_model.specs.World.{Home}
use Rattle.block_columns.specs.declared.shape.TypeShape.{TypeShape}
use Rattle.chunk_block.specs.Blocks.{BlockState, row_in, is_off}
use Rattle.archetype_store.specs.Stores.{shape_list}
use Rattle.scenario_record.specs.declared.record.SystemEntry.{SystemEntry}
use Rattle.run_model.specs.Clock.{versions}
use Rattle.run_model.specs.Query.{matching_rows}

-- the type can be disabled, as far as a block knows its types
abbrev pub is_enableable_in : List TypeShape → ℕ → Bool
is_enableable_in [] t = false
is_enableable_in (x ∷ xs) t = if nat_eq x.ty.0 t then x.enableable else is_enableable_in xs t

-- a type is disabled in a row of a block
abbrev pub is_off_in : BlockState → ℕ → ℕ → Bool
is_off_in b k t = is_enableable_in (shape_list b.columns) t && is_off t (row_in k b.rows)

-- a type is on in a row of a block
abbrev pub is_on_in : BlockState → ℕ → ℕ → Bool
is_on_in b k t = has_type b.types t && not (is_off_in b k t)

-- the places of the rows that match
abbrev pub matching_places : List TypeInfo → SystemEntry → Home → List Row → List ℕ
matching_places registry s home rows = map (λ p. p.place) (matching_rows registry versions s home 0 rows)
