use Rattle.std.proofs.Common.{◌≡◌, sym, ap, ◌∙◌, subst, Some}
use Rattle.std.specs.Prelude.{option_map}
use Rattle.std.specs.Option.{IsSome}
use Rattle.world_model.specs.Found.{part_at}
use Rattle.archetype_store.specs.Slots.{slot_at}
use Rattle.archetype_store.specs.Holding.{Backs, ids_of, parts_of}
use Rattle.archetype_store.specs.Stores.{Numbered}
use Rattle.archetype_store.specs.Inside.{beside, kept}
use Rattle.archetype_store.proofs.Views.{slot-kept}
use Rattle.archetype_store.proofs.Added.{backs-one}
use Rattle.archetype_store.proofs.Reading.{number-holds, number-some, of-number}
use Rattle.archetype_store.proofs.store.ArchetypeStore.shared_of.Goals as goal

pub held_at-requires : goal.held_at-requires
held_at-requires c =
    subst (λ slots. IsSome (slot_at slots c.args.number)) (sym c.deref.ensures.value)
    (number-some c.self.inside c.args.self.now c.self.view_is c.args.number (λ (b : Numbered). IsSome (part_at c.args.ty.0 b.shared)) c.requires)

pub values_in-requires-clause-backs : goal.values_in-requires-clause-backs
values_in-requires-clause-backs c =
    let s = c.self.inside in
    let at = sym (ap (λ slots. slot_at slots c.args.number) c.deref.ensures.value) ∙ c.held_at.ensures in
    subst (λ ps. Backs s.shared (ids_of ps)) (sym c.deref-2.ensures.value)
    (backs-one s.shared (kept s.slots.items) c.args.number (beside c.held_at.result.now) c.self.invariant.0.backs (slot-kept s.slots.items c.args.number ∙ ap (option_map beside) at))

pub values_in-requires-clause-there : goal.values_in-requires-clause-there
values_in-requires-clause-there c =
    let s = c.self.inside in
    let at = sym (ap (λ slots. slot_at slots c.args.number) c.deref.ensures.value) ∙ c.held_at.ensures in
    subst (λ ps. IsSome (part_at c.args.ty.0 (parts_of s.shared ps))) (sym c.deref-2.ensures.value)
    (number-holds s c.args.self.now c.self.view_is c.args.number (λ (b : Numbered). IsSome (part_at c.args.ty.0 b.shared)) c.requires c.held_at.result.now at)

pub returns : goal.returns
returns c =
    let s = c.self.inside in
    let at = sym (ap (λ slots. slot_at slots c.args.number) c.deref.ensures.value) ∙ c.held_at.ensures in
    of-number s c.args.self.now c.self.view_is c.args.number (λ (b : Numbered). IsSome (part_at c.args.ty.0 b.shared)) c.requires (λ (b : Numbered). part_at c.args.ty.0 b.shared ≡ Some c.values_in.result.now)
    c.held_at.result.now at (ap (λ ps. part_at c.args.ty.0 (parts_of s.shared ps)) (sym c.deref-2.ensures.value) ∙ c.values_in.ensures)
