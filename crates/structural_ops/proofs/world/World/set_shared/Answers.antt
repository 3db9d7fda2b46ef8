use Rattle.std.proofs.Common.{sym, subst}
use Rattle.world_model.specs.Lawful.{ActSuits}
use Rattle.world_model.specs.Operations.{SetShared}
use Rattle.world_model.specs.Part.{part_of as seen}
use Rattle.structural_ops.specs.Worlds.{WorldState}
use Rattle.structural_ops.proofs.world.World.set_shared.Goals as goal

pub set_shared-requires-clause-suits : goal.set_shared-requires-clause-suits
set_shared-requires-clause-suits c = subst (λ (w : WorldState). ActSuits w.world.registry (SetShared (seen c.args.part.now))) (sym c.self.view_is) c.requires
