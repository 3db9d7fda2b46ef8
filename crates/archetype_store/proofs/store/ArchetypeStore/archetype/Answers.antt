use Rattle.std.proofs.Common.{◌≡◌, sym, ap, ◌∙◌, refl, subst}
use Rattle.std.specs.Option.{IsSome}
use Rattle.archetype_store.specs.Slots.{slot_at}
use Rattle.archetype_store.specs.Stores.{Numbered}
use Rattle.archetype_store.proofs.Writes.{slot-some}
use Rattle.archetype_store.proofs.Reading.{of-number}
use Rattle.archetype_store.proofs.store.ArchetypeStore.archetype.Goals as goal

pub held_at-requires : goal.held_at-requires
held_at-requires c =
    subst (λ slots. IsSome (slot_at slots c.args.number)) (sym c.deref.ensures.value) (slot-some c.self.inside c.args.self.now c.self.view_is c.args.number (λ _. Unit {0}) c.requires)

pub returns : goal.returns
returns c =
    of-number c.self.inside c.args.self.now c.self.view_is c.args.number (λ _. Unit {0}) c.requires (λ (b : Numbered). c.held_at.result.now.archetype ≡ b.archetype) c.held_at.result.now
    (sym (ap (λ slots. slot_at slots c.args.number) c.deref.ensures.value) ∙ c.held_at.ensures) refl
