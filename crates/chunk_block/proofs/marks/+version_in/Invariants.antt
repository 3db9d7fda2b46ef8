use Rattle.std.proofs.Common.{length}
use Rattle.chunk_block.proofs.marks.+version_in.Given as goal

abbrev pub decreases-version_in : goal.decreases-version_in
decreases-version_in l = length l.marks.now
