use Rattle.std.proofs.Common.{◌≡◌, List, length}
use Rattle.archetype_store.specs.Stores.{IsStore, Numbered}
use Rattle.archetype_store.specs.Attached.{EndsHollow}
use Rattle.archetype_store.proofs.store.ArchetypeStore.remove_last.Given as goal

-- some of the last blocks are gone
abbrev pub invariant-loop-number : goal.invariant-loop-number
invariant-loop-number l =
    (l.self.registry ≡ l.initial.self.registry)
    × ((l.self.archetypes ≡ l.initial.self.archetypes)
    × (IsStore l.self × ((old : List Numbered) → EndsHollow l.initial.left.items old l.initial.self → EndsHollow l.left.items old l.self)))

abbrev pub decreases-loop-number : goal.decreases-loop-number
decreases-loop-number l = length l.left.items
