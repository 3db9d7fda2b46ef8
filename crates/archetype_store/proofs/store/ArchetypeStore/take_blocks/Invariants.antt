use Rattle.std.proofs.Common.{◌≡◌, ◌≤◌, ℕ, List, Some, length, take}
use Rattle.archetype_store.specs.Slots.{slot_at}
use Rattle.archetype_store.specs.Stores.{IsStore, Numbered}
use Rattle.archetype_store.specs.Inside.{blocks_in}
use Rattle.archetype_store.specs.Attached.{Extends, IsHollow}
use Rattle.archetype_store.proofs.Moving.{Fills}
use Rattle.archetype_store.proofs.store.ArchetypeStore.take_blocks.Given as goal

-- the blocks of the first places were taken
abbrev pub invariant-loop-place : goal.invariant-loop-place
invariant-loop-place l =
    (l.self.registry ≡ l.initial.self.registry)
    × ((l.self.archetypes ≡ l.initial.self.archetypes)
    × (IsStore l.self
    × ((l.done ≡ length (blocks_in l.initial.slots.items l.other-inside.shared (take l.place l.order.items)))
    × (((k n : ℕ) → l.place ≤ k → slot_at l.order.items k ≡ Some n → slot_at l.slots.items n ≡ slot_at l.initial.slots.items n)
    × ((old : List Numbered) → Extends IsHollow l.fn.other.blocks l.numbers old l.initial.self → Fills l.initial.slots.items l.other-inside.shared l.order.items l.place l.numbers old l.self)))))
