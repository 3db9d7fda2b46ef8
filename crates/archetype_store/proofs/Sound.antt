-- What always holds of a store, as contracts see it.
use Rattle.std.proofs.Common.{◌≡◌, ℕ, nat_eq, [], length, Some, sym, ap, ◌∙◌, subst, arith}
use Rattle.std.specs.Prelude.{option_map, count_by, is_some, unwrap_or}
use Rattle.std.specs.HashMap.{get}
use Rattle.std.specs.Cmp.Lexicographic.{pointwise}
use Rattle.world_model.specs.World.{capacity}
use Rattle.chunk_block.specs.Blocks.{new_types}
use Rattle.archetype_store.specs.declared.slots.Held.{Held}
use Rattle.archetype_store.specs.declared.store.ArchetypeStore.TheInside.{Inside}
use Rattle.archetype_store.specs.Slots.{slot_at}
use Rattle.archetype_store.specs.Stores.{IsOfStore, IsStore, shared_types, shape_list}
use Rattle.archetype_store.specs.Inside.{beside, numbered, blocks_in, view_of, IsOfArchetype, IsConsistent}
use Rattle.archetype_store.proofs.Views.{slot-kept}
use Rattle.archetype_store.proofs.Added.{blocks-count, order-there, types-of-parts}
use Rattle.archetype_store.proofs.Archetypes.{apart-by}
use Rattle.archetype_store.proofs.Ranks.{block-there, blocks-distinct, ranks-count, ranks-rise, told-all}

module _ (s : Inside) (consistent : IsConsistent s) where
  seen-length : length (blocks_in s.slots.items s.shared s.order.items) ≡ count_by is_some s.order.items
  seen-length = blocks-count s.slots.items s.shared s.order.items (order-there s.slots.items s.order.items consistent.0.ordered)

  of-store : (m : ℕ) (h : Held) → slot_at s.slots.items m ≡ Some h → IsOfStore (view_of s) (numbered s.shared m h)
  of-store m h at =
      let of : IsOfArchetype (unwrap_or s.registry []) s.archetypes.items (beside h) = consistent.0.of_archetypes m (beside h) (slot-kept s.slots.items m ∙ ap (option_map beside) at) in
      record {
        there = of.there;
        types = of.types;
        capacity = of.capacity ∙ ap (capacity (unwrap_or s.registry [])) (sym of.types);
        shapes = of.shapes ∙ ap (λ ts. shape_list (new_types (unwrap_or s.registry []) ts)) (sym of.types);
        shared = types-of-parts s.shared h.shared.items ∙ of.shared ∙ ap (shared_types (unwrap_or s.registry [])) (sym of.types);
      }

  pub is-store : IsStore (view_of s)
  is-store = record {
    numbers = blocks-distinct s.slots.items s.shared 0 s.order.items (told-all s.slots.items s.order.items consistent.0.ordered);
    blocks = λ b is.
        let found = block-there s.slots.items s.shared s.order.items b is in
        subst (IsOfStore (view_of s)) (sym found.1.1.1) (of-store found.0 found.1.0 found.1.1.0);
    apart = apart-by s.archetypes.items (get (pointwise nat_eq) s.by_types) consistent.1.1.1;
    fit = consistent.0.fit;
    ranked = ranks-count 0 s.order.items ∙ sym seen-length;
    rising = ranks-rise 0 s.order.items;
    few = omega (arith, seen-length, consistent.0.order_counted, consistent.0.counted, consistent.0.few);
    registered = consistent.0.registered;
  }
