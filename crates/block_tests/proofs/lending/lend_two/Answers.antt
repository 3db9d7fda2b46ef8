use Rattle.std.proofs.Common.{◌≡◌, ◌∙◌, sym, subst}
use Rattle.chunk_block.specs.Blocks.{BlockState, AreHeld}
use Rattle.block_tests.proofs.Held.{whole_held, still_held}
use Rattle.block_tests.proofs.lending.lend_two.Goals as goal

pub lend-one-requires : goal.lend-one-requires
lend-one-requires c = whole_held c.args.first.now c.args.block.now.columns c.requires

pub lend-other-requires : goal.lend-other-requires
lend-other-requires c =
    subst (λ (b : BlockState). AreHeld c.args.second.now b.columns) (sym c.lend-one.ensures.block)
    (still_held c.args.first.now c.args.second.now c.args.block.now.columns (sym c.meets.ensures.value ∙ c.if-meets.false) c.requires)

pub returns : goal.returns
returns c = (c.lend-other.ensures.others c.lend-one.result c.lend-one.ensures.own, c.lend-other.ensures.own)
