use Rattle.std.proofs.Common.{◌≡◌, ◌<◌, ◌≤◌, ℕ, [], length, None, refl, sym, ap, ◌∙◌, subst, arith}
use Rattle.std.proofs.lemmas.List.{get_or_default}
use Rattle.archetype_store.specs.Slots.{slot_at}
use Rattle.archetype_store.specs.Stores.{StoreState}
use Rattle.archetype_store.specs.Attached.{Each, Extends, IsHollow, IsMoved}
use Rattle.archetype_store.proofs.Moving.{Taken, fills-all, place-taken, take-kind, take-next, take-there}
use Rattle.archetype_store.proofs.store.ArchetypeStore.take_blocks.Goals as goal

pub loop-place-init : goal.loop-place-init
loop-place-init c = (
  refl,
  (
    refl,
    (
      c.is_sound.ensures,
      (
        refl,
        (
          λ k n from at. refl,
          λ old extends.
              record {
                before = [];
                after = c.args.numbers.now;
                moved = [];
                hollow = extends.added;
                numbers = refl;
                blocks = extends.blocks;
                front = tt;
                back = subst (λ bs. Each (IsHollow c.args.self.now.archetypes) bs c.args.numbers.now extends.added) (sym (ap (λ (v : StoreState). v.blocks) c.other.view_is)) extends.each;
              },
        ),
      ),
    ),
  ),
)

pub take_at-done-requires-clause-there : goal.take_at-done-requires-clause-there
take_at-done-requires-clause-there c =
    let o = c.other.inside in
    let p : ℕ = c.loop-place.place in
    let inv = c.loop-place.invariant in
    let below : p < length o.order.items = omega (arith, c.loop-place-test.true, c.len-place-end.ensures, o.order.ok.0) in
    let at : slot_at o.order.items p ≡ c.index.result.now = get_or_default o.order.items p None c.index.result.now below ∙ sym c.index.ensures in
    take-there o c.other.invariant p below c.loop-place.slots.items inv.1.1.1.1.0 c.args.numbers.now c.loop-place.self inv.1.1.0.numbers c.loop-place.done inv.1.1.1.0 c.index.result.now at

pub take_at-done-requires-clause-next : goal.take_at-done-requires-clause-next
take_at-done-requires-clause-next c =
    let o = c.other.inside in
    let p : ℕ = c.loop-place.place in
    let inv = c.loop-place.invariant in
    let below : p < length o.order.items = omega (arith, c.loop-place-test.true, c.len-place-end.ensures, o.order.ok.0) in
    let at : slot_at o.order.items p ≡ c.index.result.now = get_or_default o.order.items p None c.index.result.now below ∙ sym c.index.ensures in
    take-next o c.other.invariant p below c.loop-place.slots.items inv.1.1.1.1.0 c.args.numbers.now c.loop-place.self inv.1.1.0.numbers c.loop-place.done inv.1.1.1.0
    c.requires.old (inv.1.1.1.1.1 c.requires.old c.requires.extends) c.index.result.now at

pub take_at-done-requires-clause-kind : goal.take_at-done-requires-clause-kind
take_at-done-requires-clause-kind c =
    let o = c.other.inside in
    let p : ℕ = c.loop-place.place in
    let inv = c.loop-place.invariant in
    let below : p < length o.order.items = omega (arith, c.loop-place-test.true, c.len-place-end.ensures, o.order.ok.0) in
    let at : slot_at o.order.items p ≡ c.index.result.now = get_or_default o.order.items p None c.index.result.now below ∙ sym c.index.ensures in
    take-kind o c.other.invariant p below c.loop-place.slots.items inv.1.1.1.1.0 c.args.numbers.now c.loop-place.self inv.1.1.0.numbers c.loop-place.done inv.1.1.1.0
    c.requires.old (inv.1.1.1.1.1 c.requires.old c.requires.extends) c.index.result.now at

pub loop-place-preserved : goal.loop-place-preserved
loop-place-preserved c =
    let o = c.other.inside in
    let p : ℕ = c.loop-place.place in
    let inv = c.loop-place.invariant in
    let below : p < length o.order.items = omega (arith, c.loop-place-test.true, c.len-place-end.ensures, o.order.ok.0) in
    let at : slot_at o.order.items p ≡ c.index.result.now = get_or_default o.order.items p None c.index.result.now below ∙ sym c.index.ensures in
    let taken : Taken o p c.args.numbers.now c.loop-place.self c.take_at-done.new.self c.take_at-done.new.slots.items c.take_at-done.result =
    place-taken o c.other.invariant p below c.loop-place.slots.items inv.1.1.1.1.0 c.args.numbers.now c.loop-place.self inv.1.1.0.numbers c.loop-place.done inv.1.1.1.0
    c.take_at-done.new.self c.take_at-done.new.slots.items c.take_at-done.result c.index.result.now at c.take_at-done.ensures in (
      taken.registry ∙ inv.0,
      (
        taken.archetypes ∙ inv.1.0,
        (
          c.is_sound-in-loop-place.ensures,
          (taken.done, (taken.slots, λ old extends. taken.fills old (inv.1.1.1.1.1 old extends))),
        ),
      ),
    )

pub returns-clause-registry : goal.returns-clause-registry
returns-clause-registry c = c.loop-place.invariant.0

pub returns-clause-archetypes : goal.returns-clause-archetypes
returns-clause-archetypes c = c.loop-place.invariant.1.0

pub returns-clause-blocks : goal.returns-clause-blocks
returns-clause-blocks c old extends =
    let o = c.other.inside in
    let past : length o.order.items ≤ c.loop-place.place = omega (arith, c.loop-place-test.false, c.len-place-end.ensures, o.order.ok.0) in
    subst (λ bs. Extends IsMoved bs c.args.numbers.now old c.loop-place.self) (ap (λ (v : StoreState). v.blocks) c.other.view_is)
    (fills-all o.slots.items o.shared o.order.items c.loop-place.place c.args.numbers.now old c.loop-place.self past (c.loop-place.invariant.1.1.1.1.1 old extends))
