use Rattle.std.proofs.Common.{length}
use Rattle.chunk_block.proofs.slot.+set_value_in.Given as goal

abbrev pub decreases-set_value_in : goal.decreases-set_value_in
decreases-set_value_in l = length l.slots.now
