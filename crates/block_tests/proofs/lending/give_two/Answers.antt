use Rattle.block_tests.proofs.lending.give_two.Goals as goal

pub give_back-requires-2 : goal.give_back-requires-2
give_back-requires-2 c = c.give_back.ensures.others c.args.second c.requires.second
