use Rattle.std.proofs.Common.{◌≡◌, ℕ, ◌<◌, Some}
use Rattle.archetype_store.specs.Slots.{slot_at}
use Rattle.archetype_store.specs.Inside.{rank_at}
use Rattle.archetype_store.specs.Gaps.{all_unranked, taken}
use Rattle.archetype_store.proofs.gaps.rank_blocks.Given as goal

-- the blocks of the first places have their new ranks
abbrev pub invariant-loop-place : goal.invariant-loop-place
invariant-loop-place l =
    (l.rank ≡ taken l.place l.order)
    × ((all_unranked l.slots.items ≡ all_unranked l.initial.slots.items) × ((k n : ℕ) → k < l.place → slot_at l.order k ≡ Some n → rank_at l.slots.items n ≡ taken k l.order))
