use Rattle.std.proofs.Common.{subst, ap, length, arith}
use Rattle.ent_types.specs.TypeSets.{IsRisingBelow}
use Rattle.ent_types.proofs.TypeBits.{IsRisingBelow-types_of}
use Rattle.ent_types.proofs.TypeCounts.{length-types_of_le}
use Rattle.ent_types.proofs.type_set.TypeSet.iter.Goals as goal

pub returns-clause-rising : goal.returns-clause-rising
returns-clause-rising c = subst (IsRisingBelow 256) c.self.view_is (IsRisingBelow-types_of c.self.inside.words)

pub returns-clause-bound : goal.returns-clause-bound
returns-clause-bound c = omega (arith, ap length c.self.view_is, length-types_of_le c.self.inside.words)
