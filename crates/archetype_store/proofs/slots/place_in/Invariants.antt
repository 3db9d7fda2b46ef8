use Rattle.std.proofs.Common.{◌≡◌, ℕ, get_or, length, ◌-◌, ◌<◌, ◌≤◌}
use Rattle.archetype_store.specs.Inside.{rank_at}
use Rattle.archetype_store.proofs.slots.place_in.Given as goal

-- the rank stands from `low` on and before `high`
abbrev pub invariant-loop-high : goal.invariant-loop-high
invariant-loop-high l =
    (l.high ≤ length l.numbers) × ((l.low < l.high) × ((k : ℕ) → k < length l.numbers → rank_at l.slots (get_or l.numbers k 0) ≡ l.rank → (l.low ≤ k) × (k < l.high)))

abbrev pub decreases-loop-high : goal.decreases-loop-high
decreases-loop-high l = l.high - l.low
