use Rattle.std.proofs.Common.{ℕ, ◌≡◌, ◌<◌, sym, subst, length, Option}
use Rattle.std.specs.Prelude.{⊤}
use Rattle.std.specs.Option.{IfSome}
use Rattle.ent_types.specs.declared.entity.Entity.{Entity}
use Rattle.entity_table.specs.Table.{IsAlive}
use Rattle.chunk_block.specs.Blocks.{IsWhole}
use Rattle.archetype_store.specs.Stores.{StoreState, OfBlock, with_block_in}
use Rattle.world_places.specs.Placing.{mover_in, order_marked}
use Rattle.world_places.proofs.Numbers.{of_before, of_both, of_changed, of_member, of_more}
use Rattle.structural_ops.proofs.tables.leave.Goals as goal

-- the order's mark doesn't change which row takes the place
unmarked : (n now k : ℕ) (m : Option Entity) (old new : StoreState) → new ≡ with_block_in n (order_marked now) old → OfBlock n (λ b. m ≡ mover_in k b) new.blocks → OfBlock n (λ b. m ≡ mover_in k b) old.blocks
unmarked n now k m old new is mover =
    of_before n (order_marked now) (λ b. m ≡ mover_in k b.block) old.blocks (subst (λ (s : StoreState). OfBlock n (λ b. m ≡ mover_in k b) s.blocks) is mover)

pub mark_order-requires : goal.mark_order-requires
mark_order-requires c =
    of_more c.args.place.block (λ b. (c.args.place.row < length b.block.rows) × IsWhole b.block.columns) (λ _. ⊤) c.args.store.now.blocks (λ b is. tt) c.requires.there

pub leave-mover-requires : goal.leave-mover-requires
leave-mover-requires c =
    subst (λ (s : StoreState). OfBlock c.args.place.block (λ b. (c.args.place.row < length b.rows) × IsWhole b.columns) s.blocks) (sym c.mark_order.ensures)
    (of_changed c.args.place.block (order_marked c.args.version.0) (λ b. (c.args.place.row < length b.block.rows) × IsWhole b.block.columns) c.args.store.now.blocks c.requires.there)

pub put_place-requires : goal.put_place-requires
put_place-requires c =
    let n = c.args.place.block in
    let row = c.args.place.row in
    let m : Option Entity = c.leave-mover.result in
    let mover : OfBlock n (λ b. m ≡ mover_in row b) c.args.store.now.blocks =
    unmarked n c.args.version.0 row m c.args.store.now c.mark_order.new.self c.mark_order.ensures c.leave-mover.ensures.moved in
    let (b, i, number, alive) = of_member n (λ b. IfSome m (IsAlive c.args.table.now.table)) c.args.store.now.blocks
    (of_both n (λ b. m ≡ mover_in row b.block) (λ b. IfSome (mover_in row b.block) (IsAlive c.args.table.now.table)) (λ b. IfSome m (IsAlive c.args.table.now.table)) c.args.store.now.blocks
    (λ b is alive. subst (λ o. IfSome o (IsAlive c.args.table.now.table)) (sym is) alive) mover c.requires.alive) in
    subst (λ o. IfSome o (IsAlive c.args.table.now.table)) c.in-Some.is alive

pub returns-in-Some-clause-mover : goal.returns-in-Some-clause-mover
returns-in-Some-clause-mover c =
    subst (λ m. OfBlock c.args.place.block (λ b. m ≡ mover_in c.args.place.row b) c.args.store.now.blocks) c.in-Some.is
    (unmarked c.args.place.block c.args.version.0 c.args.place.row c.leave-mover.result c.args.store.now c.mark_order.new.self c.mark_order.ensures c.leave-mover.ensures.moved)

pub returns-in_default-clause-mover : goal.returns-in_default-clause-mover
returns-in_default-clause-mover c =
    unmarked c.args.place.block c.args.version.0 c.args.place.row c.leave-mover.result c.args.store.now c.mark_order.new.self c.mark_order.ensures c.leave-mover.ensures.moved
