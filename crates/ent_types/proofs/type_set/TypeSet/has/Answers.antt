use Rattle.std.proofs.Common.{◌∙◌, ap, sym, subst, eqb, get_or, ◌%◌}
use Rattle.std.proofs.lemmas.Nat.Bits.{shr_and_one}
use Rattle.std.specs.Int.{bit_at}
use Rattle.ent_types.specs.TypeSets.{has_type, IsRisingBelow}
use Rattle.ent_types.proofs.TypeBits.{IsRisingBelow-types_of, has_type-types_of}
use Rattle.ent_types.proofs.type_set.TypeSet.has.Goals as goal

pub returns-clause-value : goal.returns-clause-value
returns-clause-value c =
    ap (λ b. eqb b 1) (shr_and_one _ (c.args.ty.0 % 64))
    ∙ ap (λ k. eqb (bit_at (get_or c.self.inside.words k 0) (c.args.ty.0 % 64)) 1) c.from.ensures
    ∙ sym (has_type-types_of c.self.inside.words c.self.invariant c.args.ty.0)
    ∙ ap (λ types. has_type types c.args.ty.0) c.self.view_is

pub returns-clause-rising : goal.returns-clause-rising
returns-clause-rising c = subst (IsRisingBelow 256) c.self.view_is (IsRisingBelow-types_of c.self.inside.words)
