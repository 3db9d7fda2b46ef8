use Rattle.std.proofs.Common.{sym, subst}
use Rattle.structural_ops.specs.References.{HasReference}
use Rattle.structural_ops.specs.Worlds.{WorldState}
use Rattle.structural_ops.proofs.world.World.put_ref.Goals as goal

pub put_ref-requires-clause-there : goal.put_ref-requires-clause-there
put_ref-requires-clause-there c = subst (λ (w : WorldState). HasReference w.world c.args.e c.args.ty.0 c.args.field) (sym c.self.view_is) c.requires
