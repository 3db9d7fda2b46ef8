use Rattle.std.proofs.Common.{sym, subst}
use Rattle.world_model.specs.Lawful.{Suits}
use Rattle.world_model.specs.Operations.{On, SetEnabled}
use Rattle.structural_ops.specs.Worlds.{WorldState}
use Rattle.structural_ops.proofs.world.World.set_enabled.Goals as goal

pub set_enabled-requires-clause-suits : goal.set_enabled-requires-clause-suits
set_enabled-requires-clause-suits c = subst (λ (w : WorldState). Suits w.world.registry (On c.args.e (SetEnabled c.args.ty.0 c.args.on))) (sym c.self.view_is) c.requires
