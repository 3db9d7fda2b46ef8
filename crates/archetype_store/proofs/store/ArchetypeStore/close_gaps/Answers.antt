use Rattle.std.proofs.Common.{Vec, Global, ◌≡◌, ℕ, List, map, filter, Option, sym, ap, ◌∙◌, subst, arith}
use Rattle.std.specs.Prelude.{is_some}
use Rattle.std.specs.HashMap.{get}
use Rattle.std.specs.Vec.{vec_capacity}
use Rattle.archetype_store.specs.declared.slots.Held.{Held}
use Rattle.archetype_store.specs.HomeKeys.{same_home}
use Rattle.archetype_store.specs.Homes.{AreHomes, homes_of, lodgers}
use Rattle.archetype_store.specs.Slots.{AreOrdered}
use Rattle.archetype_store.specs.Stores.{StoreState}
use Rattle.archetype_store.specs.Inside.{blocks_in, kept, IsOrderly}
use Rattle.archetype_store.specs.Gaps.{Renumbers, reranked}
use Rattle.archetype_store.proofs.Added.{length-kept}
use Rattle.archetype_store.proofs.Closed.{blocks-closed, homes-closed, kept-ordered, orderly-closed, typed-closed}
use Rattle.archetype_store.proofs.store.ArchetypeStore.close_gaps.Goals as goal

pub overflow_sub-there : goal.overflow_sub-there
overflow_sub-there c = omega (arith, c.self.invariant.0.counted, length-kept c.self.inside.slots.items)

pub rank_blocks-requires : goal.rank_blocks-requires
rank_blocks-requires c =
    subst (AreOrdered (λ (h : Held). h.rank) c.self.inside.slots.items) (sym c.deref.ensures.value) (kept-ordered c.self.inside.slots.items c.self.inside.order.items c.self.invariant.0.ordered)

pub invariant_of-self : goal.invariant_of-self
invariant_of-self c =
    let s = c.self.inside in
    let slots : List (Option Held) = c.rank_blocks.new.slots.items in
    let re : Renumbers s.slots.items slots s.order.items = subst (Renumbers s.slots.items slots) c.deref.ensures.value c.rank_blocks.ensures in
    let order : c.drop_gaps.new.order.items ≡ filter is_some s.order.items = c.drop_gaps.ensures in
    let homes : homes_of c.rerank_homes.new.homes.items ≡ map (reranked slots s.order.items) (homes_of s.homes.items) =
    c.rerank_homes.ensures ∙ ap (λ ss. map (reranked ss c.deref-3.result.now) (homes_of s.homes.items)) c.deref-2.ensures.value
    ∙ ap (λ os. map (reranked slots os) (homes_of s.homes.items)) c.deref-3.ensures.value in (
      subst (λ o. IsOrderly s.registry s.archetypes.items (map (λ (v : Vec ℕ Global). v.items) s.members.items) (kept slots) s.free.items (vec_capacity s.free) o s.shared) (sym order)
          (orderly-closed s.slots.items slots s.order.items c.self.invariant.0.ordered re s.registry s.archetypes.items (map (λ (v : Vec ℕ Global). v.items) s.members.items) s.free.items (vec_capacity s.free) s.shared c.self.invariant.0),
      (
        typed-closed s.slots.items slots s.order.items c.self.invariant.0.ordered re s.shared c.self.invariant.1.0,
        (
          subst (AreHomes (homes_of c.rerank_homes.new.homes.items) (get same_home s.found) (lodgers slots)) (sym order)
              (subst (λ hs. AreHomes hs (get same_home s.found) (lodgers slots) (filter is_some s.order.items)) (sym homes)
              (homes-closed s.slots.items slots s.order.items c.self.invariant.0.ordered re (homes_of s.homes.items) (get same_home s.found) c.self.invariant.1.1.0)),
          c.self.invariant.1.1.1,
        ),
      ),
    )

pub returns : goal.returns
returns c =
    let s = c.self.inside in
    let slots : List (Option Held) = c.rank_blocks.new.slots.items in
    let re : Renumbers s.slots.items slots s.order.items = subst (Renumbers s.slots.items slots) c.deref.ensures.value c.rank_blocks.ensures in
    record {
      registry = ap (λ (v : StoreState). v.registry) c.self.view_is;
      archetypes = ap (λ (v : StoreState). v.archetypes) c.self.view_is;
      blocks =
          ap (blocks_in slots s.shared) c.drop_gaps.ensures
          ∙ blocks-closed s.slots.items slots s.order.items c.self.invariant.0.ordered re s.shared ∙ ap (λ (v : StoreState). v.blocks) c.self.view_is;
    }
