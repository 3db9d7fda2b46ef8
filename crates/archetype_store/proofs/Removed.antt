-- A store without one of its blocks.
use Rattle.std.proofs.Common.{Vec, Global, ◌≡◌, ◌≢◌, ℕ, zero, suc, ◌+◌, ◌<◌, inl, inr, not, cond, nat_eq, List, [], ◌∷◌, ◌++◌, length, get_or, set, map, filter, Option, Some, None, refl, sym, ap, ◌∙◌, subst, arith}
use Rattle.std.specs.Prelude.{option_map}
use Rattle.std.specs.List.{cons_option, remove}
use Rattle.std.specs.Vec.{vec_capacity}
use Rattle.std.specs.Option.{IsSome, IfSome}
use Rattle.std.proofs.lemmas.Bool.{cases_eq, eq-eqb, ne_eqb, false≢true}
use Rattle.std.proofs.lemmas.List.{get_or-map, get_or-set_same, get_or-set_other, get_or_default, length-map, map-set}
use Rattle.world_model.specs.Members.{In, IsRising}
use Rattle.shared_values.specs.declared.table.Slot.{Slot as Interned}
use Rattle.archetype_store.specs.declared.shared_parts.SharedPart.{SharedPart}
use Rattle.archetype_store.specs.declared.slots.Held.{Held}
use Rattle.archetype_store.specs.declared.store.ArchetypeStore.TheInside.{Inside}
use Rattle.archetype_store.specs.Times.{times}
use Rattle.archetype_store.specs.Holding.{Backs, Holds, KeepsValues, Releases, ids_of}
use Rattle.archetype_store.specs.Slots.{slot_at}
use Rattle.archetype_store.specs.Stores.{Numbered, StoreState, HasBlocks, without_block}
use Rattle.archetype_store.specs.Inside.{AreUsed, Beside, beside, kept, all_ids, members_at, members_of, numbered, numbered_at, blocks_in, ranks_from, rank_at, number_at, view_of, IsOrderly, IsConsistent}
use Rattle.archetype_store.proofs.Times.{times-append}
use Rattle.archetype_store.proofs.Holding.{backs-count}
use Rattle.archetype_store.proofs.Orders.{some_is, below_of, count-gone, times-gone}
use Rattle.archetype_store.proofs.Views.{slot-kept}
use Rattle.archetype_store.proofs.Added.{blocks-kept, orderly-gone}
use Rattle.archetype_store.proofs.Found.{used-members, members-kept}
use Rattle.archetype_store.proofs.Ranks.{used-at, in-map, member-in, members-rise, rank-is, removed-is, told-all}

-- the values of other blocks after the values of one were released
pub released : (old new : List Interned) (slots : List (Option Beside)) (n : ℕ) (x : Beside) (held : List SharedPart) → Backs old (all_ids slots) → slot_at slots n ≡ Some x → held ≡ x.shared
    → Releases old new held → Holds old new [] [] (all_ids (set slots n None))
released old new slots n x held backs there same releases =
    let others : List ℕ = all_ids (set slots n None) in
    let counts : (id : ℕ) → times id (ids_of held ++ others) ≡ times id (all_ids slots) =
    λ id. times-append id (ids_of held) others ∙ ap (λ (ps : List SharedPart). times id (ids_of ps) + times id others) same ∙ sym (times-gone (λ (y : Beside). ids_of y.shared) slots n x there id) in
    releases others (backs-count old (all_ids slots) (ids_of held ++ others) counts backs)

-- the blocks without one
module _ (slots : List (Option Held)) (table : List Interned) (n : ℕ) (below : n < length slots) where
  gone : slot_at (set slots n None) n ≡ None
  gone = get_or-set_same slots n None None below

  -- an empty place gives no block, as a number without a block does
  blocks-empty : (os : List (Option ℕ)) (r : ℕ) → slot_at os r ≡ Some n → blocks_in (set slots n None) table (set os r None) ≡ blocks_in (set slots n None) table os
  blocks-empty [] r is = refl
  blocks-empty (o ∷ os) zero is =
      sym (ap (λ p. cons_option (numbered_at (set slots n None) table p) (blocks_in (set slots n None) table os)) is
      ∙ ap (λ p. cons_option (option_map (numbered table n) p) (blocks_in (set slots n None) table os)) gone)
  blocks-empty (o ∷ os) (suc r) is = ap (λ bs. cons_option (numbered_at (set slots n None) table o) bs) (blocks-empty os r is)

  blocks-without : (os : List (Option ℕ)) → blocks_in (set slots n None) table os ≡ without_block n (blocks_in slots table os)
  blocks-without [] = refl
  blocks-without (None ∷ os) = blocks-without os
  blocks-without (Some m ∷ os) =
      elim (cases_eq m n) [
        | inl same ↦
            ap (λ p. cons_option (option_map (numbered table m) p) (blocks_in (set slots n None) table os)) (ap (slot_at (set slots n None)) same ∙ gone)
            ∙ blocks-without os ∙ sym (dropped same (slot_at slots m) (blocks_in slots table os))
        | inr apart ↦
            ap (λ p. cons_option (option_map (numbered table m) p) (blocks_in (set slots n None) table os)) (get_or-set_other slots n m None None apart)
            ∙ ap (λ bs. cons_option (option_map (numbered table m) (slot_at slots m)) bs) (blocks-without os)
            ∙ sym (stays apart (slot_at slots m) (blocks_in slots table os))
      ]
    where
      dropped : m ≡ n → (o : Option Held) (bs : List Numbered) → without_block n (cons_option (option_map (numbered table m) o) bs) ≡ without_block n bs
      dropped same None bs = refl
      dropped same (Some h) bs = ap (λ b. cond (not b) (numbered table m h ∷ without_block n bs) (without_block n bs)) (eq-eqb m n same)

      stays : m ≢ n → (o : Option Held) (bs : List Numbered) → without_block n (cons_option (option_map (numbered table m) o) bs) ≡ cons_option (option_map (numbered table m) o) (without_block n bs)
      stays apart None bs = refl
      stays apart (Some h) bs = ap (λ b. cond (not b) (numbered table m h ∷ without_block n bs) (without_block n bs)) (ne_eqb m n apart)

  pub blocks-gone : (os : List (Option ℕ)) (r : ℕ) → slot_at os r ≡ Some n → blocks_in (set slots n None) table (set os r None) ≡ without_block n (blocks_in slots table os)
  blocks-gone os r is = blocks-empty os r is ∙ blocks-without os

-- what is read of a block that is there
pub standing : (slots copy : List (Option Held)) (n : ℕ) (h : Held) (r : ℕ × ℕ) → copy ≡ slots → slot_at slots n ≡ Some h → IfSome (slot_at copy n) (λ held. (r.0 ≡ held.archetype) × (r.1 ≡ held.rank))
    → (r.0 ≡ h.archetype) × (r.1 ≡ h.rank)
standing slots copy n h r same at is = subst (λ o. IfSome o (λ held. (r.0 ≡ held.archetype) × (r.1 ≡ held.rank))) (ap (λ ss. slot_at ss n) same ∙ at) is

-- two readings of one place are the same
pub same-item : (vs : List (Vec ℕ Global)) (a : ℕ) (v w : Vec ℕ Global) → a < length vs → v ≡ get_or vs a v → w ≡ get_or vs a w → v ≡ w
same-item vs a v w below at_v at_w = at_v ∙ get_or_default vs a v w below ∙ sym at_w

-- a store that loses a block
module _ (s : Inside) (consistent : IsConsistent s) (n : ℕ) (h : Held) (there : slot_at s.slots.items n ≡ Some h) where
  pub there-kept : slot_at (kept s.slots.items) n ≡ Some (beside h)
  there-kept = slot-kept s.slots.items n ∙ ap (option_map beside) there

  archetype-below : h.archetype < length s.archetypes.items
  archetype-below = (consistent.0.of_archetypes n (beside h) there-kept).there

  pub members-below : h.archetype < length s.members.items
  members-below = omega (arith, archetype-below, consistent.0.members_there, length-map s.members.items (λ (v : Vec ℕ Global). v.items))

  placed : slot_at s.order.items h.rank ≡ Some n
  placed = consistent.0.placed n (beside h) there-kept

  pub rank-below : h.rank < length s.order.items
  rank-below = below_of s.order.items h.rank n placed

  pub free-fits : length s.free.items < vec_capacity s.free
  free-fits = omega (arith, consistent.0.counted, consistent.0.free_room, count-gone (kept s.slots.items) n (beside h) there-kept)

  module _ (v : Vec ℕ Global) (at : v ≡ get_or s.members.items h.archetype v) where
    numbers-are : v.items ≡ members_of (kept s.slots.items) h.archetype s.order.items
    numbers-are = members-kept s v h.archetype consistent archetype-below at

    pub numbers-used : AreUsed s.slots.items v.items
    numbers-used = subst (AreUsed s.slots.items) (sym numbers-are) (used-members s.slots.items h.archetype s.order.items)

    pub numbers-rise : IsRising (map (rank_at s.slots.items) v.items)
    numbers-rise =
        subst (λ ns. IsRising (map (rank_at s.slots.items) ns)) (sym numbers-are)
        (members-rise s.slots.items (λ (x : Beside). nat_eq x.archetype h.archetype) 0 s.order.items (told-all s.slots.items s.order.items consistent.0.ordered))

    pub rank-in : In h.rank (map (rank_at s.slots.items) v.items)
    rank-in =
        let number_in : In n (members_of (kept s.slots.items) h.archetype s.order.items) =
        member-in s.slots.items (λ (x : Beside). nat_eq x.archetype h.archetype) s.order.items h.rank n (beside h) placed there-kept (eq-eqb h.archetype h.archetype refl) in
        subst (λ r. In r (map (rank_at s.slots.items) v.items)) (rank-is s.slots.items n h there)
        (in-map (rank_at s.slots.items) v.items n (subst (In n) (sym numbers-are) number_in))

    -- the place with the rank has the number
    pub number-is : (k : ℕ) → k < length v.items → rank_at s.slots.items (number_at v.items k) ≡ h.rank → number_at v.items k ≡ n
    number-is k below rank = by (slot_at s.slots.items (number_at v.items k)) refl (used-at s.slots.items v.items k numbers-used below)
      where
        by : (o : Option Held) → slot_at s.slots.items (number_at v.items k) ≡ o → IsSome o → number_at v.items k ≡ n
        by None at_none some = absurd (false≢true some)
        by (Some g) at_some some =
            let g_kept : slot_at (kept s.slots.items) (number_at v.items k) ≡ Some (beside g) = slot-kept s.slots.items (number_at v.items k) ∙ ap (option_map beside) at_some in
            let g_rank : g.rank ≡ h.rank = sym (rank-is s.slots.items (number_at v.items k) g at_some) ∙ rank in
            some_is (number_at v.items k) n (sym (consistent.0.placed (number_at v.items k) (beside g) g_kept) ∙ ap (slot_at s.order.items) g_rank ∙ placed)

    pub numbers-removed : (k : ℕ) → k < length v.items → rank_at s.slots.items (number_at v.items k) ≡ h.rank → remove v.items k ≡ filter (λ m. not (nat_eq m n)) v.items
    numbers-removed k below rank = removed-is (rank_at s.slots.items) v.items k n numbers-rise below (number-is k below rank)

    module _ (w : Vec ℕ Global) (left : w.items ≡ filter (λ m. not (nat_eq m n)) v.items) where
      members-left : map (λ (u : Vec ℕ Global). u.items) (set s.members.items h.archetype w)
          ≡ set (map (λ (u : Vec ℕ Global). u.items) s.members.items) h.archetype (filter (λ m. not (nat_eq m n)) (members_at (map (λ (u : Vec ℕ Global). u.items) s.members.items) h.archetype))
      members-left =
          map-set (λ (u : Vec ℕ Global). u.items) s.members.items h.archetype w
          ∙ ap (set (map (λ (u : Vec ℕ Global). u.items) s.members.items) h.archetype)
          (left ∙ ap (filter (λ m. not (nat_eq m n))) (ap (λ (u : Vec ℕ Global). u.items) at ∙ sym (get_or-map (λ (u : Vec ℕ Global). u.items) s.members.items h.archetype v [] members-below)))

      module _ (table : List Interned) (held : List SharedPart) (same : held ≡ h.shared.items) (releases : Releases s.shared table held) (slots : List (Option Held)) (slots_are : slots ≡ set s.slots.items n None)
          (free : List ℕ) (free_are : free ≡ s.free.items ++ n ∷ []) (room : ℕ) (room_is : room ≡ vec_capacity s.free) (order : List (Option ℕ)) (order_is : order ≡ set s.order.items h.rank None) where
        abbrev left_members : List (List ℕ)
        left_members = set (map (λ (u : Vec ℕ Global). u.items) s.members.items) h.archetype (filter (λ m. not (nat_eq m n)) (members_at (map (λ (u : Vec ℕ Global). u.items) s.members.items) h.archetype))

        slots-kept : kept slots ≡ set (kept s.slots.items) n None
        slots-kept = ap kept slots_are ∙ map-set (option_map beside) s.slots.items n None

        pub orderly-removed : IsOrderly s.registry s.archetypes.items (map (λ (u : Vec ℕ Global). u.items) (set s.members.items h.archetype w)) (kept slots) free room order table
        orderly-removed =
            subst (λ m. IsOrderly s.registry s.archetypes.items m (kept slots) free room order table) (sym members-left)
            (subst (λ k. IsOrderly s.registry s.archetypes.items left_members k free room order table) (sym slots-kept)
            (subst (λ f. IsOrderly s.registry s.archetypes.items left_members (set (kept s.slots.items) n None) f room order table) (sym free_are)
            (subst (λ r. IsOrderly s.registry s.archetypes.items left_members (set (kept s.slots.items) n None) (s.free.items ++ n ∷ []) r order table) (sym room_is)
            (subst (λ o. IsOrderly s.registry s.archetypes.items left_members (set (kept s.slots.items) n None) (s.free.items ++ n ∷ []) (vec_capacity s.free) o table) (sym order_is)
            (orderly-gone s.registry s.archetypes.items (map (λ (u : Vec ℕ Global). u.items) s.members.items) (kept s.slots.items) s.free.items (vec_capacity s.free) s.order.items s.shared consistent.0 n (beside h) table there-kept
            (released s.shared table (kept s.slots.items) n (beside h) held consistent.0.backs there-kept same releases).backs)))))

  module _ (table : List Interned) (held : List SharedPart) (same : held ≡ h.shared.items) (releases : Releases s.shared table held) (slots : List (Option Held)) (slots_are : slots ≡ set s.slots.items n None)
      (order : List (Option ℕ)) (order_is : order ≡ set s.order.items h.rank None) where
    blocks-removed : blocks_in slots table order ≡ without_block n (blocks_in s.slots.items s.shared s.order.items)
    blocks-removed =
        ap (λ k. blocks_in k table order) slots_are ∙ ap (blocks_in (set s.slots.items n None) table) order_is
        ∙ blocks-kept (set s.slots.items n None) s.shared table (set s.order.items h.rank None)
        (subst (λ ids. KeepsValues s.shared table (all_ids ids)) (sym (map-set (option_map beside) s.slots.items n None))
        (released s.shared table (kept s.slots.items) n (beside h) held consistent.0.backs there-kept same releases).keeps)
        ∙ blocks-gone s.slots.items s.shared n (below_of s.slots.items n h there) s.order.items h.rank placed

    pub store-removed : (store : StoreState) → view_of s ≡ store
        → HasBlocks store (record { registry = s.registry; archetypes = s.archetypes.items; blocks = blocks_in slots table order; ranks = ranks_from 0 order }) (without_block n store.blocks)
    store-removed store seen = record {
      registry = ap (λ (v : StoreState). v.registry) seen;
      archetypes = ap (λ (v : StoreState). v.archetypes) seen;
      blocks = blocks-removed ∙ ap (λ (v : StoreState). without_block n v.blocks) seen;
    }
