use Rattle.std.proofs.Common.{◌≡◌, sym, ap, ◌∙◌, refl, subst}
use Rattle.std.specs.Option.{IsSome}
use Rattle.archetype_store.specs.Slots.{slot_at}
use Rattle.archetype_store.proofs.Writes.{slot-some, of-block}
use Rattle.archetype_store.proofs.store.ArchetypeStore.block.Goals as goal

pub held_at-requires : goal.held_at-requires
held_at-requires c =
    subst (λ slots. IsSome (slot_at slots c.args.number)) (sym c.deref.ensures.value) (slot-some c.self.inside c.args.self.now c.self.view_is c.args.number (λ _. Unit {0}) c.requires)

pub returns : goal.returns
returns c =
    of-block c.self.inside c.args.self.now c.self.view_is c.args.number (λ _. Unit {0}) c.requires (λ b. c.held_at.result.now.block ≡ b) c.held_at.result.now
    (sym (ap (λ slots. slot_at slots c.args.number) c.deref.ensures.value) ∙ c.held_at.ensures) refl
