use Rattle.std.proofs.Common.{ℕ, ◌≡◌, ◌<◌, ◌≤◌}
use Rattle.ent_types.specs.Fitting.{fit_number}
use Rattle.ent_types.specs.declared.kinds.FieldKind.TheVariants.{I64}
use Rattle.block_columns.specs.Columns.{number_at}
use Rattle.block_columns.proofs.stores.copy.Given as goal

-- what is done, and what isn't yet
abbrev pub invariant-loop-i : goal.invariant-loop-i
invariant-loop-i l =
    ((k : ℕ) → k < l.i → number_at k l.column ≡ fit_number I64 (number_at k l.numbers))
    × ((k : ℕ) → l.i ≤ k → number_at k l.column ≡ number_at k l.initial.column)
