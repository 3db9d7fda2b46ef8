use Rattle.std.proofs.Common.{◌≡◌, ℕ, ◌<◌, ◌≤◌, false, true, get_or}
use Rattle.std.specs.Slots.{slots_filled, slots_len}
use Rattle.job_claims.proofs.table.clear.Given as goal

abbrev pub invariant-loop-slot : goal.invariant-loop-slot
invariant-loop-slot g l =
    ((k : ℕ) → l.slot ≤ k → k < slots_len l.closed.slots → get_or (slots_filled l.closed.slots) k false ≡ true)
    × ((k : ℕ) → k < l.slot → get_or (slots_filled l.closed.slots) k false ≡ false)
    × (slots_len l.closed.slots ≡ l.slot-end)
