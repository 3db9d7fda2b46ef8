use Rattle.structural_ops.proofs.Present.{raised_consistent, raised_state}
use Rattle.structural_ops.proofs.world.World.raise.Goals as goal

pub invariant_of-self : goal.invariant_of-self
invariant_of-self c = raised_consistent c.self.inside.tables c.self.invariant c.next-version.result c.next-version.ensures.value

pub returns-clause-world : goal.returns-clause-world
returns-clause-world c = raised_state c.self.inside.tables c.self.invariant c.next-version.result c.next-version.ensures.value c.args.self.now c.self.view_is
