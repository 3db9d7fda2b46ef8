use Rattle.std.proofs.Common.{◌≡◌, ◌<◌, [], length, get_or, sym, ap, ◌∙◌, subst}
use Rattle.std.proofs.lemmas.List.{get_or_default}
use Rattle.archetype_store.specs.Stores.{StoreState, types_at}
use Rattle.archetype_store.proofs.store.ArchetypeStore.types_of.Goals as goal

pub returns : goal.returns
returns c =
    let s = c.self.inside in
    let below : c.args.a < length s.archetypes.items = subst (λ (v : StoreState). c.args.a < length v.archetypes) (sym c.self.view_is) c.requires in
    let at : c.index.result.now ≡ get_or s.archetypes.items c.args.a c.index.result.now = subst (λ a. c.index.result.now ≡ get_or s.archetypes.items a c.index.result.now) c.a.view_is c.index.ensures in
    at ∙ sym (get_or_default s.archetypes.items c.args.a [] c.index.result.now below) ∙ ap (λ (v : StoreState). types_at v.archetypes c.args.a) c.self.view_is
