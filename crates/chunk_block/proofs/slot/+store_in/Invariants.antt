use Rattle.std.proofs.Common.{length}
use Rattle.chunk_block.proofs.slot.+store_in.Given as goal

abbrev pub decreases-store_in : goal.decreases-store_in
decreases-store_in l = length l.slots.now
