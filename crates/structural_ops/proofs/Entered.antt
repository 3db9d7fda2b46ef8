-- The world after a row of a new entity has entered, or a row has moved.
use Rattle.std.proofs.Common.{ℕ, ◌≡◌, ◌≢◌, ◌<◌, ◌∙◌, true, false, sym, ap, ap₂, subst, List, [], length, Option, Some, None, option_map, is_some}
use Rattle.std.specs.Prelude.{unwrap_or}
use Rattle.std.specs.Option.{IfSome}
use Rattle.std.proofs.lemmas.List.{length-set}
use Rattle.std.proofs.lemmas.Option.{same_Some}
use Rattle.ent_types.specs.declared.entity.Entity.{Entity}
use Rattle.ent_types.specs.declared.type_info.TypeInfo.{TypeInfo}
use Rattle.ent_types.specs.declared.value.Value.{Value}
use Rattle.entity_table.specs.declared.table.Place.{Place}
use Rattle.entity_table.specs.Table.{Table, Rebinds, IsAlive, place_of, given_by, with_made, with_place}
use Rattle.world_model.specs.Part.{PartOf}
use Rattle.world_model.specs.Row.{Row}
use Rattle.world_model.specs.World.{Home, World, capacity}
use Rattle.world_model.specs.Found.{Found, found}
use Rattle.world_model.specs.Enter.{enter}
use Rattle.world_model.specs.Leave.{leave}
use Rattle.world_model.specs.Lawful.{IsSound}
use Rattle.world_model.specs.Operations.{moved_to}
use Rattle.chunk_block.specs.Blocks.{IsWhole}
use Rattle.archetype_store.specs.Stores.{StoreState, Numbered, Finds, IsStore, OfBlock, OfNumber, left, registry_of, types_at, with_block}
use Rattle.world_places.specs.Placing.{IsPlaced, IsThere, home_of, row_entered, world_of, world_blocks, order_marked, with_row, mover_in, with_mover}
use Rattle.world_places.proofs.Entering.{entered_is, made_placed}
use Rattle.world_places.proofs.Looking.{had_of, there_is}
use Rattle.world_places.proofs.Tables.{made_made, free_below, place_rebinds}
use Rattle.world_places.proofs.Leaving.{mover_if_alive, mover_block, left_alive}
use Rattle.world_places.proofs.Moving.{moved_ready, moved_mover, moved_placed, left_spoiled}
use Rattle.world_places.proofs.Numbers.{of_before, of_changed, of_more, of_value, mover_with_row}
use Rattle.world_places.proofs.Whereabouts.{entered_found}
use Rattle.world_places.proofs.Worlds.{world_moved}
use Rattle.world_rows.specs.Entering.{Enters}
use Rattle.structural_ops.proofs.Numbering.{Keeps, life_apart, others_keep}

module _ {registry : List TypeInfo} {s0 s1 s2 : StoreState} {t : Table} {a now : ℕ} {types : List ℕ} {shared : List (PartOf Value)} {row : Row} {p : Place}
    (placed : IsPlaced registry s0.blocks t) (store : IsStore s1) (finds : Finds s0 s1 registry types a) (enters : Enters s1 s2 a shared now row p) where
  abbrev pub home : Home
  home = record { types = types; shared = shared }

  placed1 : IsPlaced registry s1.blocks t
  placed1 = subst (λ bs. IsPlaced registry bs t) (sym finds.blocks) placed

  same : registry_of s1 ≡ registry
  same = ap (λ r. unwrap_or r []) finds.registry_is

  blocks_are : world_blocks s2.blocks ≡ enter (capacity registry types) now home row (world_blocks s0.blocks)
  blocks_are =
      ap world_blocks enters.blocks.blocks
      ∙ entered_is placed1 store same finds.there enters.opens now row
      ∙ ap₂ (λ ts bs. enter (capacity registry ts) now (record { types = ts; shared = shared }) row (world_blocks bs)) finds.types_are finds.blocks

  -- a row of a new entity
  module _ (new : row.entity ≡ (given_by t).entity) (fresh : place_of t (given_by t).entity ≡ None)
      (rebinds : Rebinds t (with_made t p) (given_by t).entity (Some p)) (sound : IsSound (world_of registry s0.blocks t now)) where
    pub made_is_placed : IsPlaced registry s2.blocks (with_made t p)
    made_is_placed = subst (λ bs. IsPlaced registry bs (with_made t p)) (sym enters.blocks.blocks) (made_placed placed1 store same finds.there enters.opens now p.row row new enters.last fresh rebinds)

    pub made_is : world_of registry s2.blocks (with_made t p) now
        ≡ record (world_of registry s0.blocks t now) {
          blocks = enter (capacity registry types) now home row (world_blocks s0.blocks);
          free = (given_by t).free;
          made = (given_by t).made;
        }
    made_is =
        ap₂ (λ bs m. let w : World = record (world_of registry s0.blocks t now) { blocks = bs; free = (given_by t).free; made = m } in w) blocks_are
        (made_made t p (free_below (world_of registry s0.blocks t now) sound))

    pub made_keeps : Keeps s0.blocks s2.blocks
    made_keeps =
        others_keep placed made_is_placed (given_by t).entity
        (life_apart placed made_is_placed (given_by t).entity
        (λ same. let no_way : true ≡ false = ap is_some (sym rebinds.there) ∙ same ∙ ap is_some fresh in absurd (cc)))
        (λ d other. ap (option_map (λ (q : Place). q.block)) (rebinds.others d other))

  -- the row of an alive entity, which has another home, leaves its block
  module _ (e : Entity) (q : Place) (at : place_of t e ≡ Some q) (apart : OfNumber q.block (λ b. home_of b ≢ record { types = types; shared = shared }) s0.blocks) (row_of : row.entity ≡ e) where
    there : IsThere s0.blocks e q
    there = there_is placed e q at

    abbrev was : Found
    was = record { home = home_of there.block; row = there.row }

    is1 : found e (world_blocks s1.blocks) ≡ Some was
    is1 = ap (λ bs. found e (world_blocks bs)) finds.blocks ∙ there.is_found

    apart0 : was.home ≡ home → ⊥
    apart0 = had_of there (λ b. home_of b ≢ record { types = types; shared = shared }) apart

    apart1 : was.home ≡ record { types = types_at s1.archetypes a; shared = shared } → ⊥
    apart1 f = apart0 (f ∙ ap (λ ts. let h : Home = record { types = ts; shared = shared } in h) finds.types_are)

    abbrev blocks_entered : List Numbered
    blocks_entered = with_block p.block (row_entered now row) enters.opened.blocks

    abbrev spoiled : List Numbered
    spoiled = with_block q.block (λ b. order_marked now (with_row q.row row b)) blocks_entered

    -- what `leave` asks, of the blocks into which the row has entered
    pub leave_there : OfBlock q.block (λ b. (q.row < length b.rows) × IsWhole b.columns) s2.blocks
    leave_there =
        subst (OfBlock q.block (λ b. (q.row < length b.rows) × IsWhole b.columns)) (sym enters.blocks.blocks)
        (of_more q.block (λ b. (q.row < length (with_row q.row row b.block).rows) × IsWhole b.block.columns) (λ b. (q.row < length b.block.rows) × IsWhole b.block.columns) blocks_entered
        (λ b both. (subst (λ n. q.row < n) (length-set b.block.rows q.row row) both.0, both.1))
        (of_before q.block (λ b. order_marked now (with_row q.row row b)) (λ b. (q.row < length b.block.rows) × IsWhole b.block.columns) blocks_entered
        (moved_ready placed1 store same finds.there enters.opens e q at was is1 apart1 now row row)))

    -- the row that takes the place is the same as before
    mover_spoiled : (m : Option Entity) → OfBlock q.block (λ b. m ≡ mover_in q.row b) s2.blocks → OfBlock q.block (λ b. m ≡ mover_in q.row b) spoiled
    mover_spoiled m mover =
        of_changed q.block (λ b. order_marked now (with_row q.row row b)) (λ b. m ≡ mover_in q.row b.block) blocks_entered
        (of_more q.block (λ b. m ≡ mover_in q.row b.block) (λ b. m ≡ mover_in q.row (with_row q.row row b.block)) blocks_entered (λ b f. f ∙ sym (mover_with_row q.row row b.block))
        (subst (OfBlock q.block (λ b. m ≡ mover_in q.row b)) enters.blocks.blocks mover))

    mover_there : (m : Option Entity) → OfBlock q.block (λ b. m ≡ mover_in q.row b) s2.blocks → OfBlock q.block (λ b. m ≡ mover_in q.row b) s1.blocks
    mover_there m mover = moved_mover placed1 store same finds.there enters.opens e q at was is1 apart1 now row row m (mover_spoiled m mover)

    pub leave_alive : OfBlock q.block (λ b. IfSome (mover_in q.row b) (IsAlive t)) s2.blocks
    leave_alive =
        of_value q.block (λ b. mover_in q.row b.block) (λ b. (q.row < length b.block.rows) × IsWhole b.block.columns) (λ m. IfSome m (IsAlive t)) s2.blocks
        (λ m mover. mover_if_alive placed1 e q at m (mover_there m mover)) leave_there

    module _ (m : Option Entity) (mover : OfBlock q.block (λ b. m ≡ mover_in q.row b) s2.blocks) where
      pub still_alive : IsAlive (with_mover m q t) e
      still_alive = left_alive placed1 e q at m (mover_there m mover)

      module _ (bs : List Numbered) (leaves : bs ≡ left q.block q.row (with_block q.block (order_marked now) s2.blocks)) where
        blocks_left : bs ≡ left q.block q.row spoiled
        blocks_left =
            leaves ∙ ap (λ cs. left q.block q.row (with_block q.block (order_marked now) cs)) enters.blocks.blocks ∙ sym (left_spoiled q.block q.row now row blocks_entered)

        pub moved_is_placed : IsPlaced registry bs (with_place (with_mover m q t) e p)
        moved_is_placed =
            subst (λ cs. IsPlaced registry cs (with_place (with_mover m q t) e p)) (sym blocks_left)
            (moved_placed placed1 store same finds.there enters.opens e q at was is1 apart1 now row row m (mover_spoiled m mover) p.row row_of enters.last)

        pub moved_is : world_of registry bs (with_place (with_mover m q t) e p) now ≡ moved_to (capacity registry) home row (world_of registry s0.blocks t now)
        moved_is =
            ap (λ cs. world_of registry cs (with_place (with_mover m q t) e p) now) blocks_left
            ∙ world_moved placed1 store same finds.there enters.opens now e q at was is1 apart1 row row m p.row row_of
            ∙ ap₂ (λ ts cs. moved_to (capacity registry) (record { types = ts; shared = shared }) row (world_of registry cs t now)) finds.types_are finds.blocks

        pub moved_keeps : Keeps s0.blocks bs
        moved_keeps =
            others_keep placed moved_is_placed e
            (λ stays. apart0 (same_Some was.home home (sym (ap (option_map (λ (y : Found). y.home)) there.is_found) ∙ sym stays ∙ ap (option_map (λ (y : Found). y.home)) found_home)))
            (λ d other. ap (option_map (λ (o : Place). o.block)) ((place_rebinds (with_mover m q t) e still_alive p).others d other) ∙ mover_block placed1 e q at m (mover_there m mover) d)
          where
            found_home : found e (world_blocks bs) ≡ Some (record { home = home; row = row })
            found_home =
                subst (λ d. found d (world_blocks bs) ≡ Some (let y : Found = record { home = home; row = row } in y)) row_of
                (entered_found moved_is_placed (capacity registry types) now home row (leave now row.entity (world_blocks s0.blocks)) (ap (λ (w : World). w.blocks) moved_is))
