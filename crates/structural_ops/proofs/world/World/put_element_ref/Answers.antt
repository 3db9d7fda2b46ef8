use Rattle.std.proofs.Common.{sym, subst}
use Rattle.structural_ops.specs.References.{HasElementReference}
use Rattle.structural_ops.specs.Worlds.{WorldState}
use Rattle.structural_ops.proofs.world.World.put_element_ref.Goals as goal

pub put_element_ref-requires-clause-there : goal.put_element_ref-requires-clause-there
put_element_ref-requires-clause-there c = subst (λ (w : WorldState). HasElementReference w.world c.args.e c.args.ty.0 c.args.k c.args.field) (sym c.self.view_is) c.requires
