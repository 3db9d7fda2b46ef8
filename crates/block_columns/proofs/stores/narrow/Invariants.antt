use Rattle.std.proofs.Common.{ℕ, ◌≡◌, ◌<◌, ◌≤◌}
use Rattle.std.specs.Int.{int_wrap, w32}
use Rattle.block_columns.specs.Columns.{number_at}
use Rattle.block_columns.proofs.stores.narrow.Given as goal

-- what is done, and what isn't yet
abbrev pub invariant-loop-i : goal.invariant-loop-i
invariant-loop-i l =
    ((k : ℕ) → k < l.i → number_at k l.column ≡ int_wrap w32 (number_at k l.numbers))
    × ((k : ℕ) → l.i ≤ k → number_at k l.column ≡ number_at k l.initial.column)
