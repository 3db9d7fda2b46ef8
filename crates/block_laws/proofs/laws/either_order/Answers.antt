use Rattle.std.proofs.Common.{◌∙◌, ap}
use Rattle.chunk_block.specs.Blocks.{BlockState}
use Rattle.block_laws.specs.Lending.{given_back}
use Rattle.block_laws.proofs.Orders.{given_turned}
use Rattle.block_laws.proofs.laws.either_order.Goals as goal

pub give_back-requires-2 : goal.give_back-requires-2
give_back-requires-2 c = c.give_back.ensures.others c.args.second c.requires.second

pub returns-clause-in_order : goal.returns-clause-in_order
returns-clause-in_order c = c.give_back-2.ensures.block ∙ ap (λ (b : BlockState). given_back b c.args.second) c.give_back.ensures.block

pub returns-clause-turned : goal.returns-clause-turned
returns-clause-turned c = c.give_back-2.ensures.block ∙ (ap (λ (b : BlockState). given_back b c.args.second) c.give_back.ensures.block ∙ given_turned c.args.block.now c.args.first c.args.second c.requires.apart)
