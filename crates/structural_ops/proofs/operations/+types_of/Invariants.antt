use Rattle.std.proofs.Common.{length}
use Rattle.structural_ops.proofs.operations.+types_of.Given as goal

abbrev pub decreases-types_of : goal.decreases-types_of
decreases-types_of l = length l.parts.now
