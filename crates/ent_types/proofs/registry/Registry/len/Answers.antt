use Rattle.std.proofs.Common.{arith}
use Rattle.ent_types.proofs.RegistryLemmas.{least_types}
use Rattle.ent_types.proofs.registry.Registry.len.Goals as goal

pub returns-clause-least : goal.returns-clause-least
returns-clause-least c = omega (arith, least_types c.self.inside.types.items c.self.invariant.0)
