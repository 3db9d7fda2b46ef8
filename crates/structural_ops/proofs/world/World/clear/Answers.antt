use Rattle.std.proofs.Common.{sym, subst}
use Rattle.world_model.specs.Lawful.{Suits}
use Rattle.world_model.specs.Operations.{On, Clear}
use Rattle.structural_ops.specs.Worlds.{WorldState}
use Rattle.structural_ops.proofs.world.World.clear.Goals as goal

pub clear-requires-clause-suits : goal.clear-requires-clause-suits
clear-requires-clause-suits c = subst (λ (w : WorldState). Suits w.world.registry (On c.args.e (Clear c.args.ty.0))) (sym c.self.view_is) c.requires
