use Rattle.std.proofs.Common.{take}
use Rattle.archetype_store.specs.Inside.{blocks_in}
use Rattle.archetype_store.specs.Attached.{Extends, Grows, IsHollow}
use Rattle.archetype_store.proofs.store.ArchetypeStore.copy_into.Given as goal

-- blocks were added for the first places
abbrev pub invariant-loop-place : goal.invariant-loop-place
invariant-loop-place l =
    Grows l.other.registry l.initial.self l.self
    × Extends IsHollow (blocks_in l.other-inside.slots.items l.other-inside.shared (take l.place l.other-inside.order.items)) l.numbers.items l.initial.self.blocks l.self
