use Rattle.std.proofs.Common.{ap, ◌∙◌}
use Rattle.archetype_store.specs.Stores.{StoreState, numbered_blocks}
use Rattle.archetype_store.specs.Inside.{walked}
use Rattle.archetype_store.proofs.Reading.{walked-seen}
use Rattle.archetype_store.proofs.store.ArchetypeStore.blocks.Goals as goal

pub returns : goal.returns
returns c =
    let s = c.self.inside in
    c.new.ensures ∙ ap (λ slots. walked slots c.deref-2.result.now) c.deref.ensures.value ∙ ap (walked s.slots.items) c.deref-2.ensures.value
    ∙ walked-seen s.slots.items s.shared s.order.items ∙ ap (λ (v : StoreState). numbered_blocks v.blocks) c.self.view_is
