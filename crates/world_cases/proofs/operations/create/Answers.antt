use Rattle.std.proofs.Common.{refl}
use Rattle.world_cases.proofs.operations.create.Goals as goal

pub create-requires : goal.create-requires
create-requires c = c.if-not-takes_all.ensures.0 refl
