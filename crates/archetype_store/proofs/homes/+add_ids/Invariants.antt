use Rattle.std.proofs.Common.{length}
use Rattle.archetype_store.proofs.homes.+add_ids.Given as goal

abbrev pub decreases-add_ids : goal.decreases-add_ids
decreases-add_ids l = length l.shared.now
