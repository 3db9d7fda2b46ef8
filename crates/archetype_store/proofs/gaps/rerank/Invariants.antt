use Rattle.std.proofs.Common.{◌≡◌, ◌++◌, take, drop, map}
use Rattle.archetype_store.specs.Slots.{slot_at}
use Rattle.archetype_store.specs.Gaps.{rank_there}
use Rattle.std.specs.Vec.{vec_capacity}
use Rattle.archetype_store.proofs.gaps.rerank.Given as goal

-- the first places are replaced
abbrev pub invariant-loop-i : goal.invariant-loop-i
invariant-loop-i l =
    (l.places.items ≡ map (λ place. rank_there l.slots (slot_at l.order place)) (take l.i l.initial.places.items) ++ drop l.i l.initial.places.items)
    × (vec_capacity l.places ≡ vec_capacity l.initial.places)
