use Rattle.std.proofs.Common.{ℕ, ◌≡◌, ◌<◌, ◌≤◌}
use Rattle.std.specs.Prelude.{if◌then◌else◌}
use Rattle.expr_eval.specs.Values.{is_true}
use Rattle.block_columns.specs.Columns.{number_at}
use Rattle.block_eval.proofs.operators.pick_all.Given as goal

-- what is done, and what isn't yet
abbrev pub invariant-loop-i : goal.invariant-loop-i
invariant-loop-i l =
    ((k : ℕ) → k < l.i → number_at k l.no ≡ (if is_true (number_at k l.test) then number_at k l.yes else number_at k l.initial.no))
    × ((k : ℕ) → l.i ≤ k → number_at k l.no ≡ number_at k l.initial.no)
