use Rattle.std.proofs.Common.{ℕ, ◌≡◌, ◌<◌, ◌≤◌}
use Rattle.std.specs.Prelude.{if◌then◌else◌}
use Rattle.enable_bits.specs.Masks.{has}
use Rattle.block_columns.specs.Columns.{reference_at}
use Rattle.block_columns.proofs.stores.store_references.Given as goal

-- what is done, and what isn't yet
abbrev pub invariant-loop-i : goal.invariant-loop-i
invariant-loop-i l =
    ((k : ℕ) → k < l.i → reference_at k l.column ≡ (if has l.rows k then reference_at k l.references else reference_at k l.initial.column))
    × ((k : ℕ) → l.i ≤ k → reference_at k l.column ≡ reference_at k l.initial.column)
