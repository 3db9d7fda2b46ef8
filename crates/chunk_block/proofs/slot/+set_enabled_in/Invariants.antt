use Rattle.std.proofs.Common.{length}
use Rattle.chunk_block.proofs.slot.+set_enabled_in.Given as goal

abbrev pub decreases-set_enabled_in : goal.decreases-set_enabled_in
decreases-set_enabled_in l = length l.slots.now
