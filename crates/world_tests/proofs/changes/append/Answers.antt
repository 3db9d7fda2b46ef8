use Rattle.std.proofs.Common.{refl}
use Rattle.world_tests.proofs.changes.append.Goals as goal

pub append-requires : goal.append-requires
append-requires c = c.if-not-takes_element.ensures.0 refl
