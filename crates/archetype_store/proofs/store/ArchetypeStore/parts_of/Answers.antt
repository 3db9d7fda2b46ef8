use Rattle.std.proofs.Common.{◌≡◌, map, ◌++◌, sym, ap, ◌∙◌, subst}
use Rattle.std.specs.Prelude.{option_map}
use Rattle.std.specs.Option.{IsSome}
use Rattle.world_model.specs.Part.{part_of as seen_part}
use Rattle.archetype_store.specs.Slots.{slot_at}
use Rattle.archetype_store.specs.Holding.{Backs, ids_of, parts_of}
use Rattle.archetype_store.specs.Stores.{Numbered}
use Rattle.archetype_store.specs.Inside.{beside, kept}
use Rattle.archetype_store.proofs.Views.{slot-kept}
use Rattle.archetype_store.proofs.Added.{backs-one}
use Rattle.archetype_store.proofs.Writes.{slot-some}
use Rattle.archetype_store.proofs.Reading.{of-number}
use Rattle.archetype_store.proofs.store.ArchetypeStore.parts_of.Goals as goal

pub held_at-requires : goal.held_at-requires
held_at-requires c =
    subst (λ slots. IsSome (slot_at slots c.args.number)) (sym c.deref.ensures.value) (slot-some c.self.inside c.args.self.now c.self.view_is c.args.number (λ _. Unit {0}) c.requires)

pub copy_parts-requires : goal.copy_parts-requires
copy_parts-requires c =
    let s = c.self.inside in
    let at = sym (ap (λ slots. slot_at slots c.args.number) c.deref.ensures.value) ∙ c.held_at.ensures in
    subst (λ ps. Backs s.shared (ids_of ps)) (sym c.deref-2.ensures.value)
    (backs-one s.shared (kept s.slots.items) c.args.number (beside c.held_at.result.now) c.self.invariant.0.backs (slot-kept s.slots.items c.args.number ∙ ap (option_map beside) at))

pub returns : goal.returns
returns c =
    let s = c.self.inside in
    let at = sym (ap (λ slots. slot_at slots c.args.number) c.deref.ensures.value) ∙ c.held_at.ensures in
    of-number s c.args.self.now c.self.view_is c.args.number (λ _. Unit {0}) c.requires (λ (b : Numbered). map seen_part c.copy_parts.new.parts.items ≡ b.shared) c.held_at.result.now at
    (c.in_ok-copy_parts.ensures ∙ ap (λ ps. map seen_part ps ++ parts_of s.shared c.deref-2.result.now) c.new-parts.ensures.items ∙ ap (parts_of s.shared) c.deref-2.ensures.value)
