use Rattle.std.proofs.Common.{length}
use Rattle.chunk_block.proofs.slot.+store_references_in.Given as goal

abbrev pub decreases-store_references_in : goal.decreases-store_references_in
decreases-store_references_in l = length l.slots.now
