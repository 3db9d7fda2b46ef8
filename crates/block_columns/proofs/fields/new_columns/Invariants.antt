use Rattle.std.proofs.Common.{◌≡◌, take, map}
use Rattle.block_columns.specs.Columns.{empty_column}
use Rattle.block_columns.proofs.fields.new_columns.Given as goal

abbrev pub invariant-loop-kind : goal.invariant-loop-kind
invariant-loop-kind l = l.columns.items ≡ map (empty_column l.capacity) (take l.kind-index l.kinds)
