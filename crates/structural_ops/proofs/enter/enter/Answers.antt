use Rattle.std.proofs.Common.{◌≡◌, ◌<◌, ◌∙◌, ap, sym, subst, map, reverse, length}
use Rattle.std.specs.Prelude.{⊤}
use Rattle.world_model.specs.Members.{AreDistinct}
use Rattle.world_model.specs.Part.{part_of as seen}
use Rattle.archetype_store.specs.Stores.{OfBlock, StoreState, with_block_in}
use Rattle.world_places.specs.Placing.{order_marked, row_entered}
use Rattle.world_places.proofs.Marks.{rising_distinct}
use Rattle.world_places.proofs.Numbers.{of_more, of_changed}
use Rattle.world_rows.specs.Marks.{all_marked}
use Rattle.world_rows.specs.Rows.{row_from}
use Rattle.world_rows.specs.Writes.{CanWrite, written, all_type_writes, buffer_writes, fill_writes}
use Rattle.world_rows.proofs.Composed.{pushed, dying_set, push_ready, types_can, buffers_can, row_can, row_is_entered, still_there, written_append}
use Rattle.structural_ops.specs.Buffers.{prepared_write}
use Rattle.structural_ops.proofs.Sets.{set_rises}
use Rattle.structural_ops.proofs.enter.enter.Goals as goal

pub push_row-row-requires : goal.push_row-row-requires
push_row-row-requires c =
    push_ready c.args.registry.now c.args.new.types.now (map seen c.args.new.parts.now) c.args.new.off.now c.requires.parts c.args.new.entity 0 c.in_ok-number.number c.open_block.new.store c.in_ok-number.ensures.open

pub write_types-requires-clause-room : goal.write_types-requires-clause-room
write_types-requires-clause-room c =
    subst (CanWrite c.in_ok-number.number c.push_row-row.result (all_type_writes c.args.registry.now (map seen c.args.new.parts.now) c.args.new.off.now c.args.new.types.now)) (sym c.push_row-row.ensures.store)
    (types_can c.args.registry.now c.args.new.types.now (map seen c.args.new.parts.now) c.args.new.off.now c.requires.parts c.args.new.entity c.push_row-row.result c.in_ok-number.number c.open_block.new.store
    c.in_ok-number.ensures.open c.push_row-row.ensures.place)

pub put_all-requires : goal.put_all-requires
put_all-requires c =
    let parts = map seen c.args.new.parts.now in
    let fields = all_type_writes c.args.registry.now parts c.args.new.off.now c.args.new.types.now in
    let filled : StoreState = written c.in_ok-number.number c.push_row-row.result fields (with_block_in c.in_ok-number.number (pushed c.args.new.entity) c.open_block.new.store) in
    let is : c.write_types.new.store ≡ filled = c.write_types.ensures ∙ ap (written c.in_ok-number.number c.push_row-row.result fields) c.push_row-row.ensures.store in
    subst (CanWrite c.in_ok-number.number c.push_row-row.result (reverse (map prepared_write c.in_ok-buffers.buffers.items))) (sym is)
    (subst (λ ws. CanWrite c.in_ok-number.number c.push_row-row.result (reverse ws) filled) (sym c.in_ok-buffers.ensures)
    (buffers_can c.args.registry.now c.args.new.types.now parts c.args.new.off.now c.requires.parts c.args.new.entity c.push_row-row.result c.in_ok-number.number c.open_block.new.store
    c.in_ok-number.ensures.open c.push_row-row.ensures.place))

pub set_dying-requires : goal.set_dying-requires
set_dying-requires c =
    let parts = map seen c.args.new.parts.now in
    let fields = all_type_writes c.args.registry.now parts c.args.new.off.now c.args.new.types.now in
    let filled : StoreState = written c.in_ok-number.number c.push_row-row.result fields (with_block_in c.in_ok-number.number (pushed c.args.new.entity) c.open_block.new.store) in
    let is : c.put_all.new.store ≡ written c.in_ok-number.number c.push_row-row.result (reverse (buffer_writes c.args.registry.now c.args.new.types.now parts)) filled =
    c.put_all.ensures
    ∙ ap (λ ws. written c.in_ok-number.number c.push_row-row.result (reverse ws) c.write_types.new.store) c.in_ok-buffers.ensures
    ∙ ap (written c.in_ok-number.number c.push_row-row.result (reverse (buffer_writes c.args.registry.now c.args.new.types.now parts)))
    (c.write_types.ensures ∙ ap (written c.in_ok-number.number c.push_row-row.result fields) c.push_row-row.ensures.store) in
    subst (λ s. OfBlock c.in_ok-number.number (λ b. c.push_row-row.result < length b.rows) s.blocks) (sym is)
    (row_can c.args.registry.now c.args.new.types.now parts c.args.new.off.now c.requires.parts c.args.new.entity c.push_row-row.result c.in_ok-number.number c.open_block.new.store
    c.in_ok-number.ensures.open c.push_row-row.ensures.place)

pub mark_types-requires : goal.mark_types-requires
mark_types-requires c =
    let parts = map seen c.args.new.parts.now in
    let fields = all_type_writes c.args.registry.now parts c.args.new.off.now c.args.new.types.now in
    let filled : StoreState = written c.in_ok-number.number c.push_row-row.result fields (with_block_in c.in_ok-number.number (pushed c.args.new.entity) c.open_block.new.store) in
    let is : c.put_all.new.store ≡ written c.in_ok-number.number c.push_row-row.result (reverse (buffer_writes c.args.registry.now c.args.new.types.now parts)) filled =
    c.put_all.ensures
    ∙ ap (λ ws. written c.in_ok-number.number c.push_row-row.result (reverse ws) c.write_types.new.store) c.in_ok-buffers.ensures
    ∙ ap (written c.in_ok-number.number c.push_row-row.result (reverse (buffer_writes c.args.registry.now c.args.new.types.now parts)))
    (c.write_types.ensures ∙ ap (written c.in_ok-number.number c.push_row-row.result fields) c.push_row-row.ensures.store) in
    let there : OfBlock c.in_ok-number.number (λ b. c.push_row-row.result < length b.rows) c.put_all.new.store.blocks =
    subst (λ s. OfBlock c.in_ok-number.number (λ b. c.push_row-row.result < length b.rows) s.blocks) (sym is)
    (row_can c.args.registry.now c.args.new.types.now parts c.args.new.off.now c.requires.parts c.args.new.entity c.push_row-row.result c.in_ok-number.number c.open_block.new.store
    c.in_ok-number.ensures.open c.push_row-row.ensures.place) in
    subst (λ s. OfBlock c.in_ok-number.number (λ _. ⊤) s.blocks) (sym c.set_dying.ensures)
    (of_changed c.in_ok-number.number (dying_set c.push_row-row.result c.args.new.dying) (λ _. ⊤) c.put_all.new.store.blocks
    (of_more c.in_ok-number.number _ _ c.put_all.new.store.blocks (λ b is. tt) there))

pub mark_order-requires : goal.mark_order-requires
mark_order-requires c =
    let parts = map seen c.args.new.parts.now in
    let fields = all_type_writes c.args.registry.now parts c.args.new.off.now c.args.new.types.now in
    let filled : StoreState = written c.in_ok-number.number c.push_row-row.result fields (with_block_in c.in_ok-number.number (pushed c.args.new.entity) c.open_block.new.store) in
    let is : c.put_all.new.store ≡ written c.in_ok-number.number c.push_row-row.result (reverse (buffer_writes c.args.registry.now c.args.new.types.now parts)) filled =
    c.put_all.ensures
    ∙ ap (λ ws. written c.in_ok-number.number c.push_row-row.result (reverse ws) c.write_types.new.store) c.in_ok-buffers.ensures
    ∙ ap (written c.in_ok-number.number c.push_row-row.result (reverse (buffer_writes c.args.registry.now c.args.new.types.now parts)))
    (c.write_types.ensures ∙ ap (written c.in_ok-number.number c.push_row-row.result fields) c.push_row-row.ensures.store) in
    let there : OfBlock c.in_ok-number.number (λ b. c.push_row-row.result < length b.rows) c.put_all.new.store.blocks =
    subst (λ s. OfBlock c.in_ok-number.number (λ b. c.push_row-row.result < length b.rows) s.blocks) (sym is)
    (row_can c.args.registry.now c.args.new.types.now parts c.args.new.off.now c.requires.parts c.args.new.entity c.push_row-row.result c.in_ok-number.number c.open_block.new.store
    c.in_ok-number.ensures.open c.push_row-row.ensures.place) in
    subst (λ s. OfBlock c.in_ok-number.number (λ _. ⊤) s.blocks) (sym c.mark_types.ensures)
    (still_there c.in_ok-number.number c.args.version.0 c.args.new.types.now c.set_dying.new.self
    (subst (λ s. OfBlock c.in_ok-number.number (λ _. ⊤) s.blocks) (sym c.set_dying.ensures)
    (of_changed c.in_ok-number.number (dying_set c.push_row-row.result c.args.new.dying) (λ _. ⊤) c.put_all.new.store.blocks
    (of_more c.in_ok-number.number _ _ c.put_all.new.store.blocks (λ b is. tt) there))))

pub returns-clause-ok : goal.returns-clause-ok
returns-clause-ok c =
    let parts = map seen c.args.new.parts.now in
    let fields = all_type_writes c.args.registry.now parts c.args.new.off.now c.args.new.types.now in
    let filled : StoreState = written c.in_ok-number.number c.push_row-row.result fields (with_block_in c.in_ok-number.number (pushed c.args.new.entity) c.open_block.new.store) in
    let is : c.put_all.new.store ≡ written c.in_ok-number.number c.push_row-row.result (reverse (buffer_writes c.args.registry.now c.args.new.types.now parts)) filled =
    c.put_all.ensures
    ∙ ap (λ ws. written c.in_ok-number.number c.push_row-row.result (reverse ws) c.write_types.new.store) c.in_ok-buffers.ensures
    ∙ ap (written c.in_ok-number.number c.push_row-row.result (reverse (buffer_writes c.args.registry.now c.args.new.types.now parts)))
    (c.write_types.ensures ∙ ap (written c.in_ok-number.number c.push_row-row.result fields) c.push_row-row.ensures.store) in
    let distinct : AreDistinct c.args.new.types.now = rising_distinct c.args.new.types.now (set_rises c.args.new.types.now c.len.ensures.rising) in
    let all : c.put_all.new.store
    ≡ written c.in_ok-number.number c.push_row-row.result (fill_writes c.args.registry.now c.args.new.types.now parts c.args.new.off.now) (with_block_in c.in_ok-number.number (pushed c.args.new.entity) c.open_block.new.store) =
    is ∙ sym (written_append c.in_ok-number.number c.push_row-row.result fields (reverse (buffer_writes c.args.registry.now c.args.new.types.now parts)) (with_block_in c.in_ok-number.number (pushed c.args.new.entity) c.open_block.new.store)) in
    let store : c.mark_order.new.self
    ≡ with_block_in c.in_ok-number.number (row_entered c.args.version.0 (row_from c.args.registry.now c.args.new.types.now parts c.args.new.off.now c.args.new.entity c.args.new.dying)) c.open_block.new.store =
    c.mark_order.ensures
    ∙ ap (with_block_in c.in_ok-number.number (order_marked c.args.version.0))
    (c.mark_types.ensures ∙ ap (all_marked c.in_ok-number.number c.args.version.0 c.args.new.types.now)
    (c.set_dying.ensures ∙ ap (with_block_in c.in_ok-number.number (dying_set c.push_row-row.result c.args.new.dying)) all))
    ∙ row_is_entered c.args.registry.now c.args.new.types.now parts c.args.new.off.now c.requires.parts distinct c.args.new.entity c.args.version.0 c.push_row-row.result c.open_block.new.store c.in_ok-number.number
    c.is_sound.ensures.numbers c.in_ok-number.ensures.open c.push_row-row.ensures.place c.args.new.dying in
    record {
      opened = c.open_block.new.store;
      opens = c.in_ok-number.ensures.ok;
      last = c.push_row-row.ensures.place;
      blocks = record {
        registry = ap (λ s. s.registry) store;
        archetypes = ap (λ s. s.archetypes) store;
        blocks = ap (λ s. s.blocks) store;
      };
    }
