use Rattle.std.proofs.Common.{sym, subst}
use Rattle.world_model.specs.Lawful.{ActSuits}
use Rattle.world_model.specs.Operations.{Add}
use Rattle.world_model.specs.Part.{part_of as seen}
use Rattle.structural_ops.specs.Worlds.{WorldState}
use Rattle.structural_ops.proofs.world.World.add.Goals as goal

pub add-requires-clause-suits : goal.add-requires-clause-suits
add-requires-clause-suits c = subst (λ (w : WorldState). ActSuits w.world.registry (Add (seen c.args.part.now))) (sym c.self.view_is) c.requires
