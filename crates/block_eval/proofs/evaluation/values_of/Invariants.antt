use Rattle.std.proofs.Common.{ℕ, ◌≡◌, ◌<◌}
use Rattle.expr_eval.specs.Values.{number_or_zero}
use Rattle.expr_eval.specs.Rows.{others_of}
use Rattle.block_columns.specs.Columns.{number_at, reference_at}
use Rattle.block_eval.proofs.evaluation.values_of.Given as goal

-- what is done
abbrev pub invariant-loop-i : goal.invariant-loop-i
invariant-loop-i g l = (k : ℕ) → k < l.i → number_at k l.out ≡ number_or_zero ((others_of (g.L.Lookup.found l.lookup)).value (reference_at k l.refs) l.ty l.field)
