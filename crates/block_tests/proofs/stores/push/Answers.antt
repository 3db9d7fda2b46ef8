use Rattle.std.proofs.Common.{◌<◌, ◌≡◌, length, sym, ap, subst, arith}
use Rattle.chunk_block.specs.Blocks.{BlockState, IsWhole}
use Rattle.archetype_store.specs.Stores.{StoreState, Numbered, OfBlock}
use Rattle.archetype_store.proofs.Left.{of-each}
use Rattle.archetype_store.proofs.Writes.{of-changed}
use Rattle.block_tests.proofs.Stored.{is-there, of-both}
use Rattle.block_tests.proofs.stores.push.Goals as goal

pub block-requires : goal.block-requires
block-requires c = is-there c.args.number c.args.store.now.blocks c.requires

pub block-requires-2 : goal.block-requires-2
block-requires-2 c = is-there c.args.number c.args.store.now.blocks c.requires

pub push_row-requires : goal.push_row-requires
push_row-requires c =
    of-both c.args.number (λ b. length b.rows < b.capacity) (λ b. IsWhole b.columns) c.args.store.now.blocks
    (of-each c.args.number (λ b. (c.block.result.now ≡ b) × (c.block-2.result.now ≡ b)) (λ b. length b.rows < b.capacity) c.args.store.now.blocks
    (of-both c.args.number (λ b. c.block.result.now ≡ b) (λ b. c.block-2.result.now ≡ b) c.args.store.now.blocks c.block.ensures c.block-2.ensures)
    (λ b same.
    omega (
      arith,
      c.if-len-capacity.false,
      c.len.ensures.value,
      c.capacity.ensures.value,
      ap (λ (x : BlockState). length x.rows) same.0,
      ap (λ (x : BlockState). x.capacity) same.1,
    )))
    c.requires

pub returns : goal.returns
returns c =
    subst (λ (s : StoreState). OfBlock c.args.number (λ b. IsWhole b.columns) s.blocks) (sym c.push_row.ensures.store)
    (of-changed c.args.number _ (λ b. IsWhole b.columns) (λ (b : Numbered). IsWhole b.block.columns) c.args.store.now.blocks c.requires (λ b whole. whole))
