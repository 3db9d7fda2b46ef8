use Rattle.std.proofs.Common.{◌<◌, ◌≡◌, length, arith}
use Rattle.chunk_block.specs.Blocks.{IsWhole}
use Rattle.block_tests.proofs.Stored.{is-there, of-both, row-there}
use Rattle.block_tests.proofs.stores.leaves.Goals as goal

pub block-requires : goal.block-requires
block-requires c = is-there c.args.number c.args.store.now.blocks c.requires

pub leave-requires : goal.leave-requires
leave-requires c =
    of-both c.args.number (λ b. c.args.row < length b.rows) (λ b. IsWhole b.columns) c.args.store.now.blocks
    (row-there c.args.number c.args.row c.block.result.now c.args.store.now.blocks c.block.ensures (omega (arith, c.if-row-len.false, c.len.ensures.value))) c.requires
