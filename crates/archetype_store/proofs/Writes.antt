-- What a call that writes into the block of a number finds and leaves.
use Rattle.std.proofs.Common.{◌≡◌, ℕ, ◌<◌, Bool, true, false, cond, nat_eq, List, [], ◌∷◌, length, set, get_or, map, Option, Some, None, refl, sym, ap, ◌∙◌, subst, nat_lt}
use Rattle.std.specs.Bool.{MatchBool}
use Rattle.std.specs.Option.{IsSome}
use Rattle.std.specs.Vec.{vec_capacity}
use Rattle.std.specs.HashMap.{get}
use Rattle.std.specs.Cmp.Lexicographic.{pointwise}
use Rattle.std.specs.Prelude.{option_map}
use Rattle.std.proofs.lemmas.List.{get_or_default}
use Rattle.std.proofs.Math.Seq.{map-set_same}
use Rattle.chunk_block.specs.Blocks.{BlockState}
use Rattle.archetype_store.specs.declared.slots.Held.{Held}
use Rattle.archetype_store.specs.declared.store.ArchetypeStore.TheInside.{Inside}
use Rattle.archetype_store.specs.HomeKeys.{same_home}
use Rattle.archetype_store.specs.Homes.{AreHomes, homes_of, lodger, lodgers}
use Rattle.archetype_store.specs.Slots.{slot_at}
use Rattle.archetype_store.specs.Stores.{StoreState, Numbered, OfBlock, OfNumber, with_block, with_block_in}
use Rattle.archetype_store.specs.Inside.{AreFound, Beside, beside, kept, view_of, blocks_in, AreAllTyped, IsOrderly, IsConsistent}
use Rattle.archetype_store.proofs.Orders.{below_of, none_some, some_is}
use Rattle.archetype_store.proofs.Views.{at_number, for_number, written, kept-written}

-- what holds of a block that was changed
pub of-changed : (n : ℕ) (f : BlockState → BlockState) (Q : BlockState → Type 0) (P : Numbered → Type 0) (bs : List Numbered) → OfNumber n P bs → ((b : Numbered) → P b → Q (f b.block)) → OfBlock n Q (with_block n f bs)
of-changed n f Q P [] is so = absurd is
of-changed n f Q P (b ∷ bs) is so = by (nat_eq b.number n) refl is (λ h. of-changed n f Q P bs h so)
  where
    by : (t : Bool) → nat_eq b.number n ≡ t → MatchBool t (P b) (OfNumber n P bs) → (OfNumber n P bs → OfBlock n Q (with_block n f bs))
        → OfBlock n Q (cond t (record b { block = f b.block }) b ∷ with_block n f bs)
    by true same is rest = subst (λ t. MatchBool t (Q (f b.block)) (OfBlock n Q (with_block n f bs))) (sym same) (so b is)
    by false apart is rest = subst (λ t. MatchBool t (Q b.block) (OfBlock n Q (with_block n f bs))) (sym apart) (rest is)

module _ (s : Inside) (store : StoreState) (seen : view_of s ≡ store) (n : ℕ) (P : BlockState → Type 0) (is : OfBlock n P store.blocks) where
  pub there : (h : Held) × ((slot_at s.slots.items n ≡ Some h) × P h.block)
  there = at_number (λ b. P b.block) s.slots.items s.shared n s.order.items (subst (λ (v : StoreState). OfBlock n P v.blocks) (sym seen) is)

  pub number-below : n < length s.slots.items
  number-below = below_of s.slots.items n there.0 there.1.0

  pub slot-found : (r : Option Held) → r ≡ get_or s.slots.items n r → slot_at s.slots.items n ≡ r
  slot-found r at = get_or_default s.slots.items n None r number-below ∙ sym at

  pub slot-used : (r : Option Held) → r ≡ get_or s.slots.items n r → r ≡ None → ⊥
  slot-used r at none = none_some there.0 (sym none ∙ sym (slot-found r at) ∙ there.1.0)

  pub block-is : (h : Held) → slot_at s.slots.items n ≡ Some h → P h.block
  block-is h at = subst (λ (k : Held). P k.block) (some_is there.0 h (sym there.1.0 ∙ at)) there.1.1

  pub slot-some : IsSome (slot_at s.slots.items n)
  slot-some = subst IsSome (sym there.1.0) refl

  -- what holds of the block that is found
  pub of-block : (Q : BlockState → Type 0) (h : Held) → slot_at s.slots.items n ≡ Some h → Q h.block → OfBlock n Q store.blocks
  of-block Q h at holds =
      subst (λ (v : StoreState). OfBlock n Q v.blocks) seen
      (for_number (λ b. Q b.block) (λ b. P b.block) s.slots.items s.shared n s.order.items (subst (λ (v : StoreState). OfBlock n P v.blocks) (sym seen) is)
      (λ k found. subst (λ (x : Held). Q x.block) (some_is h k (sym at ∙ found)) holds))

  -- the store after the block changed
  pub store-written : (h : Held) (f : BlockState → BlockState) (block : BlockState) → slot_at s.slots.items n ≡ Some h → block ≡ f h.block
      → record (view_of s) { blocks = blocks_in (set s.slots.items n (Some (record h { block = block }))) s.shared s.order.items } ≡ with_block_in n f store
  store-written h f block at is =
      ap (λ (b : BlockState). record (view_of s) { blocks = blocks_in (set s.slots.items n (Some (record h { block = b }))) s.shared s.order.items }) is
      ∙ ap (λ bs. record (view_of s) { blocks = bs }) (written s.slots.items s.shared n h f at s.order.items)
      ∙ ap (with_block_in n f) seen

  -- and what holds of the block that is left
  pub of-new-block : (Q : BlockState → Type 0) (h : Held) (f : BlockState → BlockState) (block : BlockState) → slot_at s.slots.items n ≡ Some h → block ≡ f h.block → Q block
      → OfBlock n Q (blocks_in (set s.slots.items n (Some (record h { block = block }))) s.shared s.order.items)
  of-new-block Q h f block at made holds =
      subst (OfBlock n Q) (sym (ap (λ b. blocks_in (set s.slots.items n (Some (record h { block = b }))) s.shared s.order.items) made ∙ written s.slots.items s.shared n h f at s.order.items))
      (of-changed n f Q (λ b. Q (f b.block)) (view_of s).blocks
      (for_number (λ b. Q (f b.block)) (λ b. P b.block) s.slots.items s.shared n s.order.items (subst (λ (v : StoreState). OfBlock n P v.blocks) (sym seen) is)
      (λ k found. subst (λ (x : Held). Q (f x.block)) (some_is h k (sym at ∙ found)) (subst Q made holds))) (λ b holds. holds))

  orderly-by : {slots : List (Option Beside)} → slots ≡ kept s.slots.items
      → IsOrderly s.registry s.archetypes.items (map (λ v. v.items) s.members.items) (kept s.slots.items) s.free.items (vec_capacity s.free) s.order.items s.shared
      → IsOrderly s.registry s.archetypes.items (map (λ v. v.items) s.members.items) slots s.free.items (vec_capacity s.free) s.order.items s.shared
  orderly-by same orderly = subst (λ slots. IsOrderly s.registry s.archetypes.items (map (λ v. v.items) s.members.items) slots s.free.items (vec_capacity s.free) s.order.items s.shared) (sym same) orderly

  -- a write that leaves the rows of the block as many as they were
  pub consistent-written : (h : Held) (f : BlockState → BlockState) (block : BlockState) → slot_at s.slots.items n ≡ Some h → block ≡ f h.block
      → beside (record h { block = f h.block }) ≡ beside h → length (f h.block).rows ≡ length h.block.rows → IsConsistent s
      → IsOrderly s.registry s.archetypes.items (map (λ v. v.items) s.members.items) (kept (set s.slots.items n (Some (record h { block = block })))) s.free.items (vec_capacity s.free) s.order.items s.shared
      × (AreAllTyped s.shared (kept (set s.slots.items n (Some (record h { block = block }))))
      × (AreHomes (homes_of s.homes.items) (get same_home s.found) (lodgers (set s.slots.items n (Some (record h { block = block })))) s.order.items × AreFound s.archetypes.items (get (pointwise nat_eq) s.by_types)))
  consistent-written h f block at is same rows consistent =
      let slots : kept (set s.slots.items n (Some (record h { block = block }))) ≡ kept s.slots.items = ap (λ b. kept (set s.slots.items n (Some (record h { block = b })))) is ∙ kept-written s.slots.items s.shared n h f at same in
      let capacity : (f h.block).capacity ≡ h.block.capacity = ap (λ (x : Beside). x.capacity) same in
      let lodger_same : lodger (record h { block = f h.block }) ≡ lodger h =
      ap (λ k. record (lodger h) { roomy = nat_lt k (f h.block).capacity }) rows ∙ ap (λ k. record (lodger h) { roomy = nat_lt (length h.block.rows) k }) capacity in
      let lodged : lodgers (set s.slots.items n (Some (record h { block = block }))) ≡ lodgers s.slots.items =
      ap (λ b. lodgers (set s.slots.items n (Some (record h { block = b })))) is
      ∙ map-set_same (option_map lodger) s.slots.items n (Some (record h { block = f h.block })) None (ap Some lodger_same ∙ sym (ap (option_map lodger) at)) in (
        orderly-by slots consistent.0,
        (
          subst (AreAllTyped s.shared) (sym slots) consistent.1.0,
          (subst (λ ls. AreHomes (homes_of s.homes.items) (get same_home s.found) ls s.order.items) (sym lodged) consistent.1.1.0, consistent.1.1.1),
        ),
      )

  -- a write that changes only the rows of the block
  pub orderly-written : (h : Held) (f : BlockState → BlockState) (block : BlockState) → slot_at s.slots.items n ≡ Some h → block ≡ f h.block → beside (record h { block = f h.block }) ≡ beside h → IsConsistent s
      → IsOrderly s.registry s.archetypes.items (map (λ v. v.items) s.members.items) (kept (set s.slots.items n (Some (record h { block = block })))) s.free.items (vec_capacity s.free) s.order.items s.shared
      × AreAllTyped s.shared (kept (set s.slots.items n (Some (record h { block = block }))))
  orderly-written h f block at is same consistent =
      let slots : kept (set s.slots.items n (Some (record h { block = block }))) ≡ kept s.slots.items = ap (λ b. kept (set s.slots.items n (Some (record h { block = b })))) is ∙ kept-written s.slots.items s.shared n h f at same in
      (orderly-by slots consistent.0, subst (AreAllTyped s.shared) (sym slots) consistent.1.0)
