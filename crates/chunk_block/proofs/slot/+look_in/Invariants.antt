use Rattle.std.proofs.Common.{length}
use Rattle.chunk_block.proofs.slot.+look_in.Given as goal

abbrev pub decreases-look_in : goal.decreases-look_in
decreases-look_in l = length l.slots.now
