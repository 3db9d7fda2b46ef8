use Rattle.std.proofs.Common.{length}
use Rattle.archetype_store.proofs.shared_parts.+hold_in.Given as goal

abbrev pub decreases-hold_in : goal.decreases-hold_in
decreases-hold_in l = length l.parts.now
