use Rattle.std.proofs.Common.{◌<◌, ◌≡◌, length, sym, subst, arith}
use Rattle.chunk_block.specs.Blocks.{BlockState, IsWhole}
use Rattle.archetype_store.specs.Stores.{StoreState, Numbered, OfBlock}
use Rattle.archetype_store.proofs.Writes.{of-changed}
use Rattle.block_tests.proofs.Stored.{is-there, row-there}
use Rattle.block_tests.proofs.stores.rename.Goals as goal

pub block-requires : goal.block-requires
block-requires c = is-there c.args.number c.args.store.now.blocks c.requires

pub put_entity-requires : goal.put_entity-requires
put_entity-requires c = row-there c.args.number c.args.row c.block.result.now c.args.store.now.blocks c.block.ensures (omega (arith, c.if-row-len.false, c.len.ensures.value))

pub mark_order-requires : goal.mark_order-requires
mark_order-requires c =
    is-there c.args.number c.put_entity.new.self.blocks
    (subst (λ (s : StoreState). OfBlock c.args.number (λ b. IsWhole b.columns) s.blocks) (sym c.put_entity.ensures)
    (of-changed c.args.number _ (λ b. IsWhole b.columns) (λ (b : Numbered). IsWhole b.block.columns) c.args.store.now.blocks c.requires (λ b whole. whole)))

pub returns : goal.returns
returns c =
    let mid : OfBlock c.args.number (λ b. IsWhole b.columns) c.put_entity.new.self.blocks =
    subst (λ (s : StoreState). OfBlock c.args.number (λ b. IsWhole b.columns) s.blocks) (sym c.put_entity.ensures)
    (of-changed c.args.number _ (λ b. IsWhole b.columns) (λ (b : Numbered). IsWhole b.block.columns) c.args.store.now.blocks c.requires (λ b whole. whole)) in
    subst (λ (s : StoreState). OfBlock c.args.number (λ b. IsWhole b.columns) s.blocks) (sym c.mark_order.ensures)
    (of-changed c.args.number _ (λ b. IsWhole b.columns) (λ (b : Numbered). IsWhole b.block.columns) c.put_entity.new.self.blocks mid (λ b whole. whole))
