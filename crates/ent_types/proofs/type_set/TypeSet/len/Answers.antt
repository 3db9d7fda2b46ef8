use Rattle.std.proofs.Common.{◌∙◌, ap, sym, subst, length, arith}
use Rattle.ent_types.specs.TypeSets.{IsRisingBelow}
use Rattle.ent_types.proofs.TypeBits.{IsRisingBelow-types_of}
use Rattle.ent_types.proofs.TypeCounts.{length-types_of, length-types_of_le}
use Rattle.ent_types.proofs.type_set.TypeSet.len.Goals as goal

pub count_bits-requires : goal.count_bits-requires
count_bits-requires c = omega (arith, length-types_of c.self.inside.words c.self.invariant, length-types_of_le c.self.inside.words)

pub returns-clause-value : goal.returns-clause-value
returns-clause-value c = c.count_bits.ensures ∙ sym (length-types_of c.self.inside.words c.self.invariant) ∙ ap length c.self.view_is

pub returns-clause-bound : goal.returns-clause-bound
returns-clause-bound c =
    omega (arith, c.count_bits.ensures, length-types_of c.self.inside.words c.self.invariant, length-types_of_le c.self.inside.words)

pub returns-clause-rising : goal.returns-clause-rising
returns-clause-rising c = subst (IsRisingBelow 256) c.self.view_is (IsRisingBelow-types_of c.self.inside.words)
