use Rattle.std.proofs.Common.{length}
use Rattle.chunk_block.proofs.slot.+store_enabled_in.Given as goal

abbrev pub decreases-store_enabled_in : goal.decreases-store_enabled_in
decreases-store_enabled_in l = length l.slots.now
