use Rattle.std.proofs.Common.{◌≡◌, ℕ, ◌+◌, drop}
use Rattle.entity_table.specs.Table.{living_from}
use Rattle.entity_table.specs.Slots.{holders_of}
use Rattle.entity_table.proofs.living.first_alive.Given as goal

abbrev pub invariant-loop-at : goal.invariant-loop-at
invariant-loop-at l = (index : ℕ) → living_from index (holders_of l.slots) ≡ living_from (index + l.at) (holders_of (drop l.at l.slots))
