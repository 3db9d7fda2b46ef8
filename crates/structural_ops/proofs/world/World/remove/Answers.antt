use Rattle.std.proofs.Common.{sym, subst}
use Rattle.world_model.specs.Lawful.{ActSuits}
use Rattle.world_model.specs.Operations.{Remove}
use Rattle.structural_ops.specs.Worlds.{WorldState}
use Rattle.structural_ops.proofs.world.World.remove.Goals as goal

pub remove-requires-clause-suits : goal.remove-requires-clause-suits
remove-requires-clause-suits c = subst (λ (w : WorldState). ActSuits w.world.registry (Remove c.args.ty.0)) (sym c.self.view_is) c.requires
