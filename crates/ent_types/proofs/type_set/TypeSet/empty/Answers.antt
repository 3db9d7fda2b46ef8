use Rattle.std.proofs.Common.{refl}
use Rattle.ent_types.specs.TypeWords.{ones_from}
use Rattle.ent_types.proofs.type_set.TypeSet.empty.Goals as goal

pub returns : goal.returns
unfolding ones_from
returns c = refl
