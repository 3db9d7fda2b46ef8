-- The row of an entity that is found.
use Rattle.std.proofs.Common.{ℕ, ◌≡◌, ◌≤◌, ◌<◌, ◌∙◌, sym, ap, List, length, Some, slice_get}
use Rattle.std.proofs.lemmas.Option.{slice_get_within, get_or_from_slice_get}
use Rattle.ent_types.specs.declared.entity.Entity.{Entity}
use Rattle.entity_table.specs.declared.table.Place.{Place}
use Rattle.entity_table.specs.Table.{place_of}
use Rattle.world_model.specs.Members.{In}
use Rattle.world_model.specs.Row.{Row}
use Rattle.world_model.specs.World.{World, capacity}
use Rattle.world_model.specs.Found.{Found, found, placed, is_of}
use Rattle.world_model.specs.Lawful.{IsLawfulRow}
use Rattle.world_laws.proofs.Members.{find_in, map_in}
use Rattle.chunk_block.specs.Blocks.{no_row, row_in}
use Rattle.archetype_store.specs.Stores.{Numbered, OfNumber}
use Rattle.world_places.specs.Placing.{IsThere, world_blocks, world_block}
use Rattle.world_places.proofs.Looking.{there_is, has_of, had_of}
use Rattle.world_rows.specs.Entering.{IsWhole}
use Rattle.world_rows.specs.Reading.{CanRead, found_at}
use Rattle.world_rows.proofs.CodeLawful.{code_rows, code_room, code_blocks}
use Rattle.structural_ops.specs.Worlds.{IsConsistent, state_of}
use Rattle.structural_ops.specs.declared.tables.Tables.{Tables}

-- the row that is got at a place
got : (rows : List Row) (k : ℕ) (r : Row) → slice_get rows k ≡ Some r → (k < length rows) × (row_in k rows ≡ r)
got rows k r is = (slice_get_within rows k r is, get_or_from_slice_get rows k r no_row is)

module _ (w : Tables) (is : IsConsistent w) where
  abbrev world : World
  world = (state_of w).world

  -- each block is whole, and has its marks
  pub block_whole : (b : Numbered) → In b w.store.blocks → IsWhole w.registry b.block
  block_whole b i = record {
    columns = is.agrees.placed.whole b i;
    marked = (code_blocks (capacity w.registry) world is.lawful (world_block b) (map_in world_block b w.store.blocks i)).marked;
  }

  module _ (e : Entity) (p : Place) (at : place_of w.table.table e ≡ Some p) where
    pub there : IsThere w.store.blocks e p
    there = there_is is.agrees.placed e p at

    at_row : (p.row < length there.block.block.rows) × (row_in p.row there.block.block.rows ≡ there.row)
    at_row = got there.block.block.rows p.row there.row there.at

    pub row_there : p.row < length there.block.block.rows
    row_there = at_row.0

    pub entity_there : (row_in p.row there.block.block.rows).entity ≡ e
    entity_there = ap (λ (r : Row). r.entity) at_row.1 ∙ there.entity

    pub found_there : found e (world_blocks w.store.blocks) ≡ Some (found_at p.row there.block)
    found_there = there.is_found ∙ ap (λ r. Some (let x : Found = record { home = (found_at p.row there.block).home; row = r } in x)) (sym at_row.1)

    pub lawful_there : IsLawfulRow w.registry (found_at p.row there.block)
    lawful_there =
        code_rows (capacity w.registry) world is.lawful (found_at p.row there.block) (find_in (is_of e) (found_at p.row there.block) (placed (world_blocks w.store.blocks)) found_there)

    pub can_read : CanRead w.registry p.row there.block
    can_read = record { there = row_there; columns = is.agrees.placed.whole there.block there.member; lawful = lawful_there }

    -- a block has room for a row of its types
    pub room_there : 1 ≤ capacity w.registry there.block.block.types
    room_there =
        code_room (capacity w.registry) world is.lawful (found_at p.row there.block) (find_in (is_of e) (found_at p.row there.block) (placed (world_blocks w.store.blocks)) found_there)

    -- what holds of the row's block holds of the block with its number, and the other way round
    pub of_block : (P : Numbered → Type 0) → P there.block → OfNumber p.block P w.store.blocks
    of_block P holds = has_of there P holds

    pub of_number : (P : Numbered → Type 0) → OfNumber p.block P w.store.blocks → P there.block
    of_number P holds = had_of there P holds
