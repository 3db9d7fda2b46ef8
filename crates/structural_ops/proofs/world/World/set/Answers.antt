use Rattle.std.proofs.Common.{sym, subst}
use Rattle.world_model.specs.Lawful.{Suits}
use Rattle.world_model.specs.Operations.{On, Set}
use Rattle.world_model.specs.Part.{part_of as seen}
use Rattle.structural_ops.specs.Worlds.{WorldState}
use Rattle.structural_ops.proofs.world.World.set.Goals as goal

pub set-requires-clause-suits : goal.set-requires-clause-suits
set-requires-clause-suits c = subst (λ (w : WorldState). Suits w.world.registry (On c.args.e (Set (seen c.args.part.now)))) (sym c.self.view_is) c.requires
