use Rattle.std.proofs.Common.{length}
use Rattle.block_columns.proofs.fields.+remove_columns.Given as goal

abbrev pub decreases-remove_columns : goal.decreases-remove_columns
decreases-remove_columns l = length l.columns.now
