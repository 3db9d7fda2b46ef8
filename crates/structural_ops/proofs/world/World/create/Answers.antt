use Rattle.std.proofs.Common.{sym, subst, map}
use Rattle.world_model.specs.Lawful.{Suits}
use Rattle.world_model.specs.Operations.{Create}
use Rattle.world_model.specs.Part.{part_of as seen}
use Rattle.structural_ops.specs.Worlds.{WorldState}
use Rattle.structural_ops.proofs.world.World.create.Goals as goal

pub create-requires-clause-suits : goal.create-requires-clause-suits
create-requires-clause-suits c = subst (λ (w : WorldState). Suits w.world.registry (Create (map seen c.args.parts.now))) (sym c.self.view_is) c.requires
