use Rattle.std.proofs.Common.{length}
use Rattle.chunk_block.proofs.slot.+is_enabled_in.Given as goal

abbrev pub decreases-is_enabled_in : goal.decreases-is_enabled_in
decreases-is_enabled_in l = length l.slots.now
