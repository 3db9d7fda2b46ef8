-- Counts of faults.
use Rattle.std.specs.Prelude.{ℕ, ◌+◌, ◌^◌, ◌<◌, ◌≤◌}

-- The count never falls, and here it rose: it is greater than before, or stands at its last value, 2 ^ 64 - 1.
abbrev pub Rises : ℕ → ℕ → Type 0
Rises before now = (before ≤ now) × (now + 1 < 2 ^ 64 → before < now)
