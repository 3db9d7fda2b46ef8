use Rattle.std.proofs.Common.{sym, subst}
use Rattle.world_model.specs.Lawful.{Suits}
use Rattle.world_model.specs.Operations.{On, Append}
use Rattle.world_model.specs.Part.{part_of as seen}
use Rattle.structural_ops.specs.Worlds.{WorldState}
use Rattle.structural_ops.proofs.world.World.append.Goals as goal

pub append-requires-clause-suits : goal.append-requires-clause-suits
append-requires-clause-suits c = subst (λ (w : WorldState). Suits w.world.registry (On c.args.e (Append (seen c.args.part.now)))) (sym c.self.view_is) c.requires
