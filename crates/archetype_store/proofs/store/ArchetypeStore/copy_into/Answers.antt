use Rattle.std.proofs.Common.{◌≡◌, ◌<◌, ◌≤◌, ℕ, List, [], length, take, None, Result, Ok, Err, OnErr, sym, ap, ◌∙◌, subst, arith}
use Rattle.std.proofs.lemmas.List.{append-nil, get_or_default, take_all}
use Rattle.ent_types.specs.declared.memory.Memory.{Memory}
use Rattle.archetype_store.specs.Slots.{slot_at}
use Rattle.archetype_store.specs.Stores.{IsStore, Numbered, StoreState}
use Rattle.archetype_store.specs.Inside.{blocks_in}
use Rattle.archetype_store.specs.declared.numbers.TheConstants.{MOST_NUMBERS}
use Rattle.archetype_store.specs.Attached.{Each, Extends, IsHollow}
use Rattle.archetype_store.proofs.Sound.{is-store}
use Rattle.archetype_store.proofs.Moving.{agree-grown, extends-kept, grows-both, grows-none, place-copied, place-few, place-there}
use Rattle.archetype_store.proofs.store.ArchetypeStore.copy_into.Goals as goal

pub loop-place-init : goal.loop-place-init
loop-place-init c = (
  grows-none c.args.other.now.registry c.args.self.now,
  record { added = []; blocks = sym (append-nil c.args.self.now.blocks); each = subst (λ ns. Each (IsHollow c.args.self.now.archetypes) [] ns []) (sym c.requires.none) tt },
)

pub copy_at-requires-clause-agree : goal.copy_at-requires-clause-agree
copy_at-requires-clause-agree c = agree-grown c.args.self.now c.loop-place.self c.args.other.now c.requires.agree c.loop-place.invariant.0

pub copy_at-requires-clause-there : goal.copy_at-requires-clause-there
copy_at-requires-clause-there c =
    let o = c.other.inside in
    let p : ℕ = c.loop-place.place in
    let below : p < length o.order.items = omega (arith, c.loop-place-test.true, c.len-place-end.ensures, o.order.ok.0) in
    let at : slot_at o.order.items p ≡ c.index.result.now = get_or_default o.order.items p None c.index.result.now below ∙ sym c.index.ensures in
    place-there o c.other.invariant c.args.other.now c.other.view_is (subst IsStore c.other.view_is (is-store o c.other.invariant)) p c.index.result.now at

pub copy_at-requires-clause-few : goal.copy_at-requires-clause-few
copy_at-requires-clause-few c =
    let o = c.other.inside in
    let p : ℕ = c.loop-place.place in
    let below : p < length o.order.items = omega (arith, c.loop-place-test.true, c.len-place-end.ensures, o.order.ok.0) in
    let at : slot_at o.order.items p ≡ c.index.result.now = get_or_default o.order.items p None c.index.result.now below ∙ sym c.index.ensures in
    place-few o c.other.invariant c.args.other.now c.other.view_is (subst IsStore c.other.view_is (is-store o c.other.invariant)) p c.loop-place.numbers.items c.args.self.now c.loop-place.self c.loop-place.invariant.1
    MOST_NUMBERS c.requires.few c.index.result.now at

pub returns-in_err-copy_at-clause-grows : goal.returns-in_err-copy_at-clause-grows
returns-in_err-copy_at-clause-grows c = grows-both c.args.other.now.registry c.args.self.now c.loop-place.self c.copy_at.new.self c.loop-place.invariant.0 c.copy_at.ensures.grows

on_err : {X : Type 0} (r : Result X Memory) (P : Type 0) → P → OnErr r P
on_err (Ok x) P p = tt
on_err (Err e) P p = p

pub returns-in_err-copy_at-clause-err : goal.returns-in_err-copy_at-clause-err
returns-in_err-copy_at-clause-err c =
    let o = c.other.inside in
    let bs : List Numbered = blocks_in o.slots.items o.shared (take c.loop-place.place o.order.items) in
    on_err c.from_residual.result _
    (record {
      like = bs;
      extends =
          subst (λ ns. Extends IsHollow bs ns c.args.self.now.blocks c.copy_at.new.self) (sym c.in_err-copy_at.ensures.err.1)
          (extends-kept c.args.other.now.registry bs c.loop-place.numbers.items c.args.self.now.blocks c.loop-place.self c.copy_at.new.self c.loop-place.invariant.1 c.copy_at.ensures.grows c.in_err-copy_at.ensures.err.0);
    })

pub loop-place-preserved : goal.loop-place-preserved
loop-place-preserved c =
    let o = c.other.inside in
    let p : ℕ = c.loop-place.place in
    let below : p < length o.order.items = omega (arith, c.loop-place-test.true, c.len-place-end.ensures, o.order.ok.0) in
    let at : slot_at o.order.items p ≡ c.index.result.now = get_or_default o.order.items p None c.index.result.now below ∙ sym c.index.ensures in (
      grows-both c.args.other.now.registry c.args.self.now c.loop-place.self c.copy_at.new.self c.loop-place.invariant.0 c.copy_at.ensures.grows,
      place-copied o c.other.invariant c.args.other.now c.other.view_is (subst IsStore c.other.view_is (is-store o c.other.invariant)) p c.loop-place.numbers.items c.args.self.now c.loop-place.self c.loop-place.invariant.1
          below c.copy_at.new.self c.copy_at.ensures.grows c.copy_at.new.numbers.items c.index.result.now at c.in_ok-copy_at.ensures.ok,
    )

pub returns-clause-grows : goal.returns-clause-grows
returns-clause-grows c = c.loop-place.invariant.0

pub returns-clause-ok : goal.returns-clause-ok
returns-clause-ok c =
    let o = c.other.inside in
    let all : length o.order.items ≤ c.loop-place.place = omega (arith, c.loop-place-test.false, c.len-place-end.ensures, o.order.ok.0) in
    subst (λ bs. Extends IsHollow bs c.loop-place.numbers.items c.args.self.now.blocks c.loop-place.self)
    (ap (blocks_in o.slots.items o.shared) (take_all c.loop-place.place o.order.items all) ∙ ap (λ (v : StoreState). v.blocks) c.other.view_is) c.loop-place.invariant.1
