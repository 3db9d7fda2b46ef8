use Rattle.std.proofs.Common.{◌∙◌, ap, sym, subst, subst₂, arith}
use Rattle.ent_types.specs.TypeSets.{IsRisingBelow, next_type}
use Rattle.ent_types.proofs.TypeBits.{IsRisingBelow-types_of}
use Rattle.ent_types.proofs.TypeScan.{Scanned, Scanned-start, Scanned-more, Scanned-some, Scanned-none}
use Rattle.ent_types.proofs.TypeWalk.{next_type-found}
use Rattle.ent_types.proofs.type_set.TypeSet.next_from.Goals as goal

pub loop-place-init : goal.loop-place-init
loop-place-init c =
    subst₂ (Scanned c.self.inside.words c.args.from) (sym c.from-start.ensures) (sym c.from-lowest.ensures)
    (Scanned-start c.self.inside.words c.args.from)

pub first_bit-requires : goal.first_bit-requires
first_bit-requires c = c.loop-place.invariant.within

pub returns-in-Some-clause-value : goal.returns-in-Some-clause-value
returns-in-Some-clause-value c =
    sym (Scanned-some c.self.inside.words c.args.from c.loop-place.place c.loop-place.lowest c.in-Some.bit c.self.invariant c.loop-place.invariant c.in-Some.ensures.some)
    ∙ ap (λ types. next_type types c.args.from) c.self.view_is

pub returns-in-Some-clause-found : goal.returns-in-Some-clause-found
returns-in-Some-clause-found c =
    next_type-found 0 256 c.args.self.now c.args.from _ (subst (IsRisingBelow 256) c.self.view_is (IsRisingBelow-types_of c.self.inside.words))
    (returns-in-Some-clause-value c)

pub returns-in-Some-clause-rising : goal.returns-in-Some-clause-rising
returns-in-Some-clause-rising c = subst (IsRisingBelow 256) c.self.view_is (IsRisingBelow-types_of c.self.inside.words)

pub loop-place-preserved : goal.loop-place-preserved
loop-place-preserved c =
    Scanned-more c.self.inside.words c.args.from c.loop-place.place c.loop-place.lowest c.loop-place.invariant c.in_default.ensures.none

pub returns-clause-value : goal.returns-clause-value
returns-clause-value c =
    sym (Scanned-none c.self.inside.words c.args.from c.loop-place.place c.loop-place.lowest c.self.invariant c.loop-place.invariant
    (omega (arith, c.loop-place-test.false)))
    ∙ ap (λ types. next_type types c.args.from) c.self.view_is

pub returns-clause-rising : goal.returns-clause-rising
returns-clause-rising c = subst (IsRisingBelow 256) c.self.view_is (IsRisingBelow-types_of c.self.inside.words)
