use Rattle.std.proofs.Common.{length}
use Rattle.chunk_block.proofs.slot.+put_elements_in.Given as goal

abbrev pub decreases-put_elements_in : goal.decreases-put_elements_in
decreases-put_elements_in l = length l.slots.now
