use Rattle.std.proofs.Common.{length}
use Rattle.chunk_block.proofs.slot.+lend_in.Given as goal

abbrev pub decreases-lend_in : goal.decreases-lend_in
decreases-lend_in l = length l.slots.now
