use Rattle.std.proofs.Common.{sym, ap, ◌∙◌, subst}
use Rattle.std.specs.Option.{IsSome}
use Rattle.archetype_store.specs.Slots.{slot_at}
use Rattle.archetype_store.specs.Stores.{StoreState, OfNumber, rank_of}
use Rattle.archetype_store.proofs.Writes.{slot-some}
use Rattle.archetype_store.proofs.Ranks.{told-all}
use Rattle.archetype_store.proofs.Reading.{rank-seen}
use Rattle.archetype_store.proofs.store.ArchetypeStore.rank.Goals as goal

pub held_at-requires : goal.held_at-requires
held_at-requires c =
    subst (λ slots. IsSome (slot_at slots c.args.number)) (sym c.deref.ensures.value) (slot-some c.self.inside c.args.self.now c.self.view_is c.args.number (λ _. Unit {0}) c.requires)

pub returns : goal.returns
returns c =
    let s = c.self.inside in
    sym (rank-seen s.slots.items s.shared c.args.number c.held_at.result.now (sym (ap (λ slots. slot_at slots c.args.number) c.deref.ensures.value) ∙ c.held_at.ensures) 0 s.order.items
    (told-all s.slots.items s.order.items c.self.invariant.0.ordered) (subst (λ (v : StoreState). OfNumber c.args.number (λ b. Unit {0}) v.blocks) (sym c.self.view_is) c.requires))
    ∙ ap (λ (v : StoreState). rank_of c.args.number v.blocks v.ranks) c.self.view_is
