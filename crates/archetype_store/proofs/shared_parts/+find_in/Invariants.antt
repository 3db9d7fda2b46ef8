use Rattle.std.proofs.Common.{length}
use Rattle.archetype_store.proofs.shared_parts.+find_in.Given as goal

abbrev pub decreases-find_in : goal.decreases-find_in
decreases-find_in l = length l.parts.now
