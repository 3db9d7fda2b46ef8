use Rattle.std.proofs.Common.{length}
use Rattle.structural_ops.proofs.writes.+write_fields.Given as goal

abbrev pub decreases-write_fields : goal.decreases-write_fields
decreases-write_fields l = length l.values.now
