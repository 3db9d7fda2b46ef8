use Rattle.std.proofs.Common.{length}
use Rattle.archetype_store.proofs.shared_parts.+values_in.Given as goal

abbrev pub decreases-values_in : goal.decreases-values_in
decreases-values_in l = length l.held.now
