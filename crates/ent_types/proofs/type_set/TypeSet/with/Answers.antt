use Rattle.std.proofs.Common.{◌∙◌, ap, arith}
use Rattle.ent_types.specs.TypeSets.{with_type}
use Rattle.ent_types.proofs.TypeBits.{IsRisingBelow-types_of, IsWords-set, types_of-with, word_with_below, word_below}
use Rattle.ent_types.proofs.type_set.TypeSet.with.Goals as goal

pub invariant_of-result : goal.invariant_of-result
invariant_of-result c =
    IsWords-set c.self.inside.words c.self.invariant c.from.result _
    (word_with_below _ _ (word_below c.self.inside.words c.self.invariant c.from.result (omega (arith, c.from.ensures))))

pub returns-clause-value : goal.returns-clause-value
returns-clause-value c =
    rw c.from.ensures (types_of-with c.self.inside.words c.args.ty.0 c.self.invariant c.requires)
    ∙ ap (λ types. with_type types c.args.ty.0) c.self.view_is

pub returns-clause-rising : goal.returns-clause-rising
returns-clause-rising c = IsRisingBelow-types_of _
