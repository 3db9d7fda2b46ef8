use Rattle.std.proofs.Common.{◌≡◌, ℕ, ◌<◌, nat_eq, [], length, Some, None, inl, refl, sym, ap, ◌∙◌, subst}
use Rattle.std.specs.Prelude.{unwrap_or}
use Rattle.std.specs.Cmp.Lexicographic.{pointwise}
use Rattle.std.specs.HashMap.{get}
use Rattle.std.specs.Option.{IfSome}
use Rattle.world_model.specs.World.{capacity}
use Rattle.archetype_store.specs.Stores.{LacksTypes, StoreState, types_at}
use Rattle.archetype_store.proofs.Archetypes.{lacks-by, registry-there}
use Rattle.archetype_store.proofs.store.ArchetypeStore.archetype_of.Goals as goal

pub returns-in-Some-clause-ok : goal.returns-in-Some-clause-ok
returns-in-Some-clause-ok c =
    let s = c.self.inside in
    let a : ℕ = c.in-Some.a in
    let found : get (pointwise nat_eq) s.by_types c.args.types.now ≡ Some a = sym c.get.ensures.value ∙ sym c.copied.ensures ∙ c.in-Some.is in
    let there = c.self.invariant.1.1.1.known c.args.types.now a found in
    let below : a < length s.archetypes.items = there.0 in
    let types : types_at s.archetypes.items a ≡ c.args.types.now = there.1 in
    let known : s.registry ≡ Some c.args.registry.now =
    registry-there s.registry c.args.registry.now s.archetypes.items a (subst (λ (v : StoreState). IfSome v.registry (λ r. r ≡ c.args.registry.now)) (sym c.self.view_is) c.requires) c.self.invariant.0.registered below in
    record {
      there = subst (λ (v : StoreState). a < length v.archetypes) c.self.view_is below;
      types_are = ap (λ (v : StoreState). types_at v.archetypes a) (sym c.self.view_is) ∙ types;
      archetypes = inl refl;
      registry_is = ap (λ (v : StoreState). v.registry) (sym c.self.view_is) ∙ known;
      blocks = refl;
      ranks = refl;
      fit = subst (λ ts. 0 < capacity c.args.registry.now ts) types (subst (λ r. 0 < capacity (unwrap_or r []) (types_at s.archetypes.items a)) known (c.self.invariant.0.fit a below));
    }

pub add_archetype-requires-clause-new : goal.add_archetype-requires-clause-new
add_archetype-requires-clause-new c =
    let s = c.self.inside in
    let none : get (pointwise nat_eq) s.by_types c.args.types.now ≡ None = sym c.get.ensures.value ∙ sym c.copied.ensures ∙ c.in-None.is in
    subst (λ (v : StoreState). LacksTypes c.args.types.now v.archetypes) c.self.view_is (lacks-by s.archetypes.items (get (pointwise nat_eq) s.by_types) c.self.invariant.1.1.1 c.args.types.now none)
