use Rattle.block_tests.proofs.lending.write_and_give.Goals as goal

pub give_two-requires-clause-first : goal.give_two-requires-clause-first
give_two-requires-clause-first c = c.write_place.ensures c.args.block.now c.requires.first

pub give_two-requires-clause-second : goal.give_two-requires-clause-second
give_two-requires-clause-second c = c.write_items.ensures c.args.block.now c.requires.second

pub give_two-requires-else-is_first-clause-first : goal.give_two-requires-else-is_first-clause-first
give_two-requires-else-is_first-clause-first c = c.write_items.ensures c.args.block.now c.requires.second

pub give_two-requires-else-is_first-clause-second : goal.give_two-requires-else-is_first-clause-second
give_two-requires-else-is_first-clause-second c = c.write_place.ensures c.args.block.now c.requires.first
