use Rattle.std.proofs.Common.{length}
use Rattle.structural_ops.proofs.suits.+are_suited.Given as goal

abbrev pub decreases-are_suited : goal.decreases-are_suited
decreases-are_suited l = length l.parts.now
