use Rattle.std.proofs.Common.{subst}
use Rattle.archetype_store.specs.Stores.{IsStore}
use Rattle.archetype_store.proofs.Sound.{is-store}
use Rattle.archetype_store.proofs.store.ArchetypeStore.is_sound.Goals as goal

pub returns : goal.returns
returns c = subst IsStore c.self.view_is (is-store c.self.inside c.self.invariant)
