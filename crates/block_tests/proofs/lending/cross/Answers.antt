use Rattle.block_tests.proofs.Held.{whole_held}
use Rattle.block_tests.proofs.lending.cross.Goals as goal

pub lend-first-requires : goal.lend-first-requires
lend-first-requires c = whole_held c.with-place.result c.args.one.now.columns c.requires.one

pub lend-second-requires : goal.lend-second-requires
lend-second-requires c = whole_held c.with-place.result c.args.other.now.columns c.requires.other

pub give_back-requires : goal.give_back-requires
give_back-requires c = c.write_place-2.ensures c.lend-second.new.self c.lend-second.ensures.own

pub give_back-requires-2 : goal.give_back-requires-2
give_back-requires-2 c = c.write_place.ensures c.lend-first.new.self c.lend-first.ensures.own
