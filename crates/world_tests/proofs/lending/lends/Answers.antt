use Rattle.std.proofs.Common.{refl}
use Rattle.world_tests.proofs.Planned.{two_planned}
use Rattle.world_tests.proofs.lending.lends.Goals as goal

pub comes_back-requires-clause-plan : goal.comes_back-requires-clause-plan
comes_back-requires-clause-plan c =
    two_planned c.args.world c.args.first c.args.second c.types.result.now c.types-2.result.now c.fill_plan.new.plan (c.if-not-fill_plan.ensures refl) c.requires.first c.requires.second c.requires.apart
