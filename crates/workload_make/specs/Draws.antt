-- The generator of numbers. Its states are the numbers below 2 ^ 64.
use Rattle.std.specs.Prelude.{ℕ, ◌+◌, ◌*◌, ◌/◌, ◌%◌, ◌^◌}

-- the state after one step from this one
abbrev pub state_after : ℕ → ℕ
state_after state = (state * 6364136223846793005 + 1442695040888963407) % 2 ^ 64

-- the number below a count that is drawn in this state, from its upper 31 bits
abbrev pub draw_in : ℕ → ℕ → ℕ
draw_in state count = state / 2 ^ 33 % count
