use Rattle.std.proofs.Common.{◌≡◌, ◌<◌, get_or, length, sym, ap, ◌∙◌, subst}
use Rattle.archetype_store.specs.Stores.{StoreState, numbers_in}
use Rattle.archetype_store.proofs.Found.{members-kept}
use Rattle.archetype_store.proofs.Reading.{numbers-seen}
use Rattle.archetype_store.proofs.store.ArchetypeStore.blocks_of.Goals as goal

pub returns : goal.returns
returns c =
    let s = c.self.inside in
    let below : c.args.a < length s.archetypes.items = subst (λ (v : StoreState). c.args.a < length v.archetypes) (sym c.self.view_is) c.requires in
    let at : c.index.result.now ≡ get_or s.members.items c.args.a c.index.result.now = subst (λ a. c.index.result.now ≡ get_or s.members.items a c.index.result.now) c.a.view_is c.index.ensures in
    c.deref.ensures.value ∙ members-kept s c.index.result.now c.args.a c.self.invariant below at
    ∙ numbers-seen s.slots.items s.shared c.args.a s.order.items ∙ ap (λ (v : StoreState). numbers_in c.args.a v.blocks) c.self.view_is
