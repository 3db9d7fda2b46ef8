use Rattle.std.proofs.Common.{length}
use Rattle.archetype_store.proofs.attach.+copy_parts.Given as goal

abbrev pub decreases-copy_parts : goal.decreases-copy_parts
decreases-copy_parts l = length l.held.now
