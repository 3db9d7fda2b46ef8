-- The world that blocks and a table make, after each change.
use Rattle.std.proofs.Common.{◌≡◌, ℕ, ◌<◌, false, List, length, Option, Some, refl, sym, ap, ◌∙◌}
use Rattle.ent_types.specs.declared.entity.Entity.{Entity}
use Rattle.ent_types.specs.declared.type_info.TypeInfo.{TypeInfo}
use Rattle.ent_types.specs.declared.value.Value.{Value}
use Rattle.entity_table.specs.declared.table.Place.{Place}
use Rattle.entity_table.specs.Table.{Table, place_of, given_by, with_made, without, with_place, made, room, alive_count as table_alive_count}
use Rattle.world_model.specs.Part.{PartOf}
use Rattle.world_model.specs.Row.{Row, Cell}
use Rattle.world_model.specs.World.{Block, World, capacity}
use Rattle.world_model.specs.Found.{Found, found, alive_count}
use Rattle.world_model.specs.Ids.{room_of, room as world_room}
use Rattle.world_model.specs.Enter.{enter}
use Rattle.world_model.specs.Leave.{leave}
use Rattle.world_model.specs.Lawful.{IsSound}
use Rattle.world_model.specs.Operations.{written, moved_to, ended, made as made_in}
use Rattle.archetype_store.specs.Stores.{Numbered, StoreState, Opens, IsStore, with_block, left, registry_of, types_at}
use Rattle.world_places.specs.Placing.{world_blocks, world_of, IsPlaced, with_row, types_marked, order_marked, row_entered, with_mover}
use Rattle.world_places.proofs.Rewriting.{rewritten_is}
use Rattle.world_places.proofs.Leaving.{left_is}
use Rattle.world_places.proofs.Entering.{entered_is}
use Rattle.world_places.proofs.Moving.{moved_is}
use Rattle.world_places.proofs.Tables.{left_free, left_made, left_first, moved_free, moved_made, moved_first, made_made, free_below}

abbrev world_from : List TypeInfo → List Block → List Entity → ℕ → ℕ → ℕ → World
world_from registry blocks free count first now = record {
  registry = registry;
  blocks = blocks;
  free = free;
  made = count;
  first_entity_version = first;
  moment = now;
}

same_world : (registry : List TypeInfo) (bs cs : List Block) (es fs : List Entity) (i j first second now : ℕ) → bs ≡ cs → es ≡ fs → i ≡ j → first ≡ second
    → world_from registry bs es i first now ≡ world_from registry cs fs j second now
same_world registry bs cs es fs i j first second now blocks free count version = λ k. world_from registry (blocks k) (free k) (count k) (version k) now

-- as many entities are alive, and can be made, as the table says
pub alive_same : {registry : List TypeInfo} {blocks : List Numbered} {table : Table} → IsPlaced registry blocks table → (now : ℕ)
    → alive_count (world_of registry blocks table now) ≡ table_alive_count table
alive_same placed_is now = sym placed_is.counted

pub room_is : {registry : List TypeInfo} {blocks : List Numbered} {table : Table} → IsPlaced registry blocks table → (now : ℕ)
    → world_room (world_of registry blocks table now) ≡ room table
room_is {registry} {blocks} {table} placed_is now = ap (λ alive. room_of alive (length table.free) (made table)) (sym placed_is.counted)

module _ {registry : List TypeInfo} {blocks : List Numbered} {table : Table} (placed_is : IsPlaced registry blocks table) (e : Entity) (p : Place) (at : place_of table e ≡ Some p) (now : ℕ) where
  pub world_written : (types : List ℕ) (row : Row) → row.entity ≡ e
      → world_of registry (with_block p.block (λ b. types_marked now types (with_row p.row row b)) blocks) table now ≡ written types row (world_of registry blocks table now)
  world_written types row same = ap (λ bs. world_from registry bs table.free (made table) table.first_version now) (rewritten_is placed_is e p at now types row same)

  pub world_ended : (m : Option Entity)
      → world_of registry (left p.block p.row (with_block p.block (order_marked now) blocks)) (without (with_mover m p table) e) now ≡ ended e (world_of registry blocks table now)
  world_ended m =
      same_world registry _ _ _ _ _ _ _ _ now (left_is placed_is e p at now) (left_free table m p e) (left_made table m p e) (left_first table m p e)

module _ {registry : List TypeInfo} {s mid : StoreState} {table : Table} {a : ℕ} {shared : List (PartOf Value)} {n : ℕ}
    (placed_is : IsPlaced registry s.blocks table) (store : IsStore s) (same : registry_of s ≡ registry) (below : a < length s.archetypes) (opens : Opens s mid a shared n) (now : ℕ) where
  pub world_made : IsSound (world_of registry s.blocks table now) → (k : ℕ) (cells : List Cell)
      → world_of registry (with_block n (row_entered now (record { entity = (given_by table).entity; cells = cells; dying = false })) mid.blocks)
      (with_made table (record { block = n; row = k })) now
      ≡ made_in (capacity registry) (record { types = types_at s.archetypes a; shared = shared }) cells (world_of registry s.blocks table now)
  world_made sound k cells =
      same_world registry _ _ _ _ _ _ _ _ now (entered_is placed_is store same below opens now (record { entity = (given_by table).entity; cells = cells; dying = false })) refl
      (made_made table (record { block = n; row = k }) (free_below (world_of registry s.blocks table now) sound)) refl

  module _ (e : Entity) (p : Place) (at : place_of table e ≡ Some p) (x : Found) (is : found e (world_blocks s.blocks) ≡ Some x)
      (apart : x.home ≡ record { types = types_at s.archetypes a; shared = shared } → ⊥) where
    pub world_moved : (row spoiled : Row) (m : Option Entity) (k : ℕ) → row.entity ≡ e
        → world_of registry (left p.block p.row (with_block p.block (λ b. order_marked now (with_row p.row spoiled b)) (with_block n (row_entered now row) mid.blocks)))
        (with_place (with_mover m p table) e (record { block = n; row = k })) now
        ≡ moved_to (capacity registry) (record { types = types_at s.archetypes a; shared = shared }) row (world_of registry s.blocks table now)
    world_moved row spoiled m k named =
        same_world registry _ _ _ _ _ _ _ _ now
        (moved_is placed_is store same below opens e p at x is apart now row spoiled
        ∙ ap (λ d. enter (capacity registry (types_at s.archetypes a)) now (record { types = types_at s.archetypes a; shared = shared }) row (leave now d (world_blocks s.blocks))) (sym named))
        (moved_free table m p (record { block = n; row = k }) e) (moved_made table m p (record { block = n; row = k }) e) (moved_first table m p (record { block = n; row = k }) e)
