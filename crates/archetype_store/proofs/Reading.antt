-- What is read of a block by its number.
use Rattle.std.proofs.Common.{◌≡◌, ℕ, zero, suc, ◌+◌, inl, inr, Bool, true, false, cond, nat_eq, List, [], ◌∷◌, ◌++◌, map, filter, Option, Some, None, refl, sym, ap, ◌∙◌, subst, arith}
use Rattle.std.specs.Prelude.{option_map}
use Rattle.std.specs.Bool.{MatchBool}
use Rattle.std.specs.Option.{IsSome}
use Rattle.std.specs.List.{cons_option}
use Rattle.std.proofs.lemmas.Bool.{cases_eq, eq-eqb, ne_eqb}
use Rattle.shared_values.specs.declared.table.Slot.{Slot as Interned}
use Rattle.archetype_store.specs.declared.slots.Held.{Held}
use Rattle.archetype_store.specs.declared.store.ArchetypeStore.TheInside.{Inside}
use Rattle.archetype_store.specs.Slots.{slot_at, number_if}
use Rattle.archetype_store.specs.Stores.{Numbered, StoreState, OfNumber, numbered_blocks, numbers_in, rank_of}
use Rattle.archetype_store.specs.Inside.{Beside, beside, kept, members_of, numbered, blocks_in, ranks_from, view_of, walked, walked_slot}
use Rattle.archetype_store.proofs.Orders.{some_is}
use Rattle.archetype_store.proofs.Views.{slot-kept, at_number, for_number}
use Rattle.archetype_store.proofs.Ranks.{Told}

-- the numbers of an archetype as they are kept and as contracts see them
pub numbers-seen : (slots : List (Option Held)) (table : List Interned) (a : ℕ) (order : List (Option ℕ)) → members_of (kept slots) a order ≡ numbers_in a (blocks_in slots table order)
numbers-seen slots table a [] = refl
numbers-seen slots table a (None ∷ os) = numbers-seen slots table a os
numbers-seen slots table a (Some m ∷ os) =
    ap (λ o. number_if (λ (x : Beside). nat_eq x.archetype a) m o ++ members_of (kept slots) a os) (slot-kept slots m)
    ∙ by (numbers-seen slots table a os) (slot_at slots m)
  where
    by : members_of (kept slots) a os ≡ numbers_in a (blocks_in slots table os) → (o : Option Held)
        → number_if (λ (x : Beside). nat_eq x.archetype a) m (option_map beside o) ++ members_of (kept slots) a os ≡ numbers_in a (cons_option (option_map (numbered table m) o) (blocks_in slots table os))
    by rest None = rest
    by rest (Some h) = of (nat_eq h.archetype a)
      where
        of : (b : Bool) → (cond b (m ∷ []) []) ++ members_of (kept slots) a os ≡ map (λ (x : Numbered). x.number) (cond b (numbered table m h ∷ filter (λ (x : Numbered). nat_eq x.archetype a) (blocks_in slots table os)) (filter (λ (x : Numbered). nat_eq x.archetype a) (blocks_in slots table os)))
        of true = ap (λ ns. m ∷ ns) rest
        of false = rest

-- the walk over the blocks
pub walked-seen : (slots : List (Option Held)) (table : List Interned) (order : List (Option ℕ)) → walked slots order ≡ numbered_blocks (blocks_in slots table order)
walked-seen slots table [] = refl
walked-seen slots table (None ∷ os) = walked-seen slots table os
walked-seen slots table (Some m ∷ os) = by (walked-seen slots table os) (slot_at slots m)
  where
    by : walked slots os ≡ numbered_blocks (blocks_in slots table os) → (o : Option Held)
        → cons_option (walked_slot m o) (walked slots os) ≡ numbered_blocks (cons_option (option_map (numbered table m) o) (blocks_in slots table os))
    by rest None = rest
    by rest (Some h) = ap (λ bs. (m, h.block) ∷ bs) rest

-- the rank of a block
pub rank-seen : (slots : List (Option Held)) (table : List Interned) (n : ℕ) (h : Held) → slot_at slots n ≡ Some h → (i : ℕ) (os : List (Option ℕ)) → Told slots i os
    → OfNumber n (λ b. Unit {0}) (blocks_in slots table os) → rank_of n (blocks_in slots table os) (ranks_from i os) ≡ h.rank
rank-seen slots table n h there i [] told is = absurd is
rank-seen slots table n h there i (None ∷ os) told is = rank-seen slots table n h there (i + 1) os (λ k m at. let t = told (suc k) m at in (t.0, (t.1.0, omega (arith, t.1.1)))) is
rank-seen slots table n h there i (Some m ∷ os) told is =
    let t = told zero m refl in
    by (λ found. rank-seen slots table n h there (i + 1) os (λ k l at. let t = told (suc k) l at in (t.0, (t.1.0, omega (arith, t.1.1)))) found) t.0 t.1.0 t.1.1
  where
    by : (OfNumber n (λ b. Unit {0}) (blocks_in slots table os) → rank_of n (blocks_in slots table os) (ranks_from (i + 1) os) ≡ h.rank) → (g : Held) → slot_at slots m ≡ Some g → g.rank ≡ i + 0
        → rank_of n (cons_option (option_map (numbered table m) (slot_at slots m)) (blocks_in slots table os)) (i ∷ ranks_from (i + 1) os) ≡ h.rank
    by rest g at rank =
        ap (λ o. rank_of n (cons_option (option_map (numbered table m) o) (blocks_in slots table os)) (i ∷ ranks_from (i + 1) os)) at
        ∙ elim (cases_eq m n) [
          | inl same ↦
              ap (λ b. cond b i (rank_of n (blocks_in slots table os) (ranks_from (i + 1) os))) (eq-eqb m n same)
              ∙ omega (arith, rank, ap (λ (x : Held). x.rank) (some_is g h (sym at ∙ ap (slot_at slots) same ∙ there)))
          | inr apart ↦
              let here : OfNumber n (λ b. Unit {0}) (numbered table m g ∷ blocks_in slots table os) = subst (λ o. OfNumber n (λ b. Unit {0}) (cons_option (option_map (numbered table m) o) (blocks_in slots table os))) at is in
              ap (λ b. cond b i (rank_of n (blocks_in slots table os) (ranks_from (i + 1) os))) (ne_eqb m n apart)
              ∙ rest (subst (λ b. MatchBool b (Unit {0}) (OfNumber n (λ c. Unit {0}) (blocks_in slots table os))) (ne_eqb m n apart) here)
        ]

-- what holds of the block of a number as it is kept holds of it as contracts see it
module _ (s : Inside) (store : StoreState) (seen : view_of s ≡ store) (n : ℕ) (P : Numbered → Type 0) (is : OfNumber n P store.blocks) where
  here : (h : Held) × ((slot_at s.slots.items n ≡ Some h) × P (numbered s.shared n h))
  here = at_number P s.slots.items s.shared n s.order.items (subst (λ (v : StoreState). OfNumber n P v.blocks) (sym seen) is)

  pub number-holds : (h : Held) → slot_at s.slots.items n ≡ Some h → P (numbered s.shared n h)
  number-holds h at = subst (λ (k : Held). P (numbered s.shared n k)) (some_is here.0 h (sym here.1.0 ∙ at)) here.1.1

  pub number-some : IsSome (slot_at s.slots.items n)
  number-some = subst IsSome (sym here.1.0) refl

  pub of-number : (Q : Numbered → Type 0) (h : Held) → slot_at s.slots.items n ≡ Some h → Q (numbered s.shared n h) → OfNumber n Q store.blocks
  of-number Q h at holds =
      subst (λ (v : StoreState). OfNumber n Q v.blocks) seen
      (for_number Q P s.slots.items s.shared n s.order.items (subst (λ (v : StoreState). OfNumber n P v.blocks) (sym seen) is)
      (λ k found. subst (λ (x : Held). Q (numbered s.shared n x)) (some_is h k (sym at ∙ found)) holds))
