use Rattle.std.proofs.Common.{subst}
use Rattle.world_model.specs.World.{capacity}
use Rattle.world_model.specs.Versions.{IsLawfulCode}
use Rattle.structural_ops.specs.Worlds.{WorldState}
use Rattle.structural_ops.proofs.world.World.is_lawful.Goals as goal

pub returns : goal.returns
returns c = subst (λ (w : WorldState). IsLawfulCode (capacity w.world.registry) w.world) c.self.view_is c.self.invariant.lawful
