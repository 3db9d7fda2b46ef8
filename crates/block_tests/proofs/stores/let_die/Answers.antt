use Rattle.std.proofs.Common.{◌<◌, ◌≡◌, length, sym, subst, arith}
use Rattle.chunk_block.specs.Blocks.{BlockState, IsWhole}
use Rattle.archetype_store.specs.Stores.{StoreState, Numbered, OfBlock}
use Rattle.archetype_store.proofs.Writes.{of-changed}
use Rattle.block_tests.proofs.Stored.{is-there, row-there}
use Rattle.block_tests.proofs.stores.let_die.Goals as goal

pub block-requires : goal.block-requires
block-requires c = is-there c.args.number c.args.store.now.blocks c.requires

pub set_dying-requires : goal.set_dying-requires
set_dying-requires c = row-there c.args.number c.args.row c.block.result.now c.args.store.now.blocks c.block.ensures (omega (arith, c.if-row-len.false, c.len.ensures.value))

pub returns : goal.returns
returns c =
    subst (λ (s : StoreState). OfBlock c.args.number (λ b. IsWhole b.columns) s.blocks) (sym c.set_dying.ensures)
    (of-changed c.args.number _ (λ b. IsWhole b.columns) (λ (b : Numbered). IsWhole b.block.columns) c.args.store.now.blocks c.requires (λ b whole. whole))
