use Rattle.std.proofs.Common.{length}
use Rattle.archetype_store.proofs.shared_parts.+release_all.Given as goal

abbrev pub decreases-release_all : goal.decreases-release_all
decreases-release_all l = length l.held.now
