use Rattle.std.proofs.Common.{length}
use Rattle.chunk_block.proofs.slot.+remove_in.Given as goal

abbrev pub decreases-remove_in : goal.decreases-remove_in
decreases-remove_in l = length l.slots.now
