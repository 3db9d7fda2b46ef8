use Rattle.std.proofs.Common.{length, ap, arith}
use Rattle.archetype_store.specs.Stores.{StoreState}
use Rattle.archetype_store.proofs.store.ArchetypeStore.archetypes.Goals as goal

pub overflow_cast-result : goal.overflow_cast-result
overflow_cast-result c = omega (arith, c.len.ensures, c.self.invariant.0.most)

pub returns : goal.returns
returns c = omega (arith, c.len.ensures, ap (λ (v : StoreState). length v.archetypes) c.self.view_is)
