-- A store's blocks as they are kept and as contracts see them.
use Rattle.std.proofs.Common.{◌≡◌, ◌≢◌, ℕ, inl, inr, cond, nat_eq, List, [], ◌∷◌, length, set, Option, Some, None, refl, sym, ap, ◌∙◌, subst, arith}
use Rattle.std.specs.Prelude.{option_map}
use Rattle.std.specs.Bool.{MatchBool}
use Rattle.std.specs.List.{cons_option}
use Rattle.std.proofs.lemmas.Bool.{cases_eq, cases_lt, eq-eqb, ne_eqb}
use Rattle.std.proofs.lemmas.List.{get_or-map, length-map, get_or_past, get_or-set_same, get_or-set_other}
use Rattle.std.proofs.Math.Seq.{map-set_same}
use Rattle.chunk_block.specs.Blocks.{BlockState}
use Rattle.shared_values.specs.declared.table.Slot.{Slot as Interned}
use Rattle.archetype_store.specs.declared.slots.Held.{Held}
use Rattle.archetype_store.specs.Homes.{lodger, lodgers}
use Rattle.archetype_store.specs.Slots.{slot_at}
use Rattle.archetype_store.specs.Stores.{Numbered, OfNumber, with_block}
use Rattle.archetype_store.proofs.Orders.{below_of}
use Rattle.archetype_store.specs.Inside.{beside, kept, numbered, blocks_in}

pub slot-kept : (slots : List (Option Held)) (n : ℕ) → slot_at (kept slots) n ≡ option_map beside (slot_at slots n)
slot-kept slots n =
    elim (cases_lt n (length slots)) [
      | inl below ↦ get_or-map (option_map beside) slots n None None below
      | inr past ↦
          get_or_past (kept slots) n None (omega (arith, length-map slots (option_map beside), past)) ∙ sym (ap (option_map beside) (get_or_past slots n None past))
    ]

pub slot-lodged : (slots : List (Option Held)) (n : ℕ) → slot_at (lodgers slots) n ≡ option_map lodger (slot_at slots n)
slot-lodged slots n =
    elim (cases_lt n (length slots)) [
      | inl below ↦ get_or-map (option_map lodger) slots n None None below
      | inr past ↦
          get_or_past (lodgers slots) n None (omega (arith, length-map slots (option_map lodger), past)) ∙ sym (ap (option_map lodger) (get_or_past slots n None past))
    ]

-- what is there of the block with a number is there of its slot
pub at_number : (P : Numbered → Type 0) (slots : List (Option Held)) (table : List Interned) (n : ℕ) (order : List (Option ℕ)) → OfNumber n P (blocks_in slots table order)
    → (h : Held) × ((slot_at slots n ≡ Some h) × P (numbered table n h))
at_number P slots table n [] is = absurd is
at_number P slots table n (None ∷ os) is = at_number P slots table n os is
at_number P slots table n (Some m ∷ os) is = by (slot_at slots m) refl is (at_number P slots table n os)
  where
    by : (slot : Option Held) → slot_at slots m ≡ slot → OfNumber n P (cons_option (option_map (numbered table m) slot) (blocks_in slots table os))
        → (OfNumber n P (blocks_in slots table os) → (h : Held) × ((slot_at slots n ≡ Some h) × P (numbered table n h)))
        → (h : Held) × ((slot_at slots n ≡ Some h) × P (numbered table n h))
    by None at found rest = rest found
    by (Some h) at found rest =
        elim (cases_eq m n) [
          | inl same ↦
              let this : P (numbered table m h) = subst (λ b. MatchBool b (P (numbered table m h)) (OfNumber n P (blocks_in slots table os))) (eq-eqb m n same) found in
              (h, (subst (λ k. slot_at slots k ≡ Some h) same at, subst (λ k. P (numbered table k h)) same this))
          | inr apart ↦
              rest (subst (λ b. MatchBool b (P (numbered table m h)) (OfNumber n P (blocks_in slots table os))) (ne_eqb m n apart) found)
        ]

-- and the other way round, where the number is there
pub for_number : (P Q : Numbered → Type 0) (slots : List (Option Held)) (table : List Interned) (n : ℕ) (order : List (Option ℕ)) → OfNumber n Q (blocks_in slots table order)
    → ((h : Held) → slot_at slots n ≡ Some h → P (numbered table n h)) → OfNumber n P (blocks_in slots table order)
for_number P Q slots table n [] is so = absurd is
for_number P Q slots table n (None ∷ os) is so = for_number P Q slots table n os is so
for_number P Q slots table n (Some m ∷ os) is so = by (slot_at slots m) refl is (λ found. for_number P Q slots table n os found so)
  where
    by : (slot : Option Held) → slot_at slots m ≡ slot → OfNumber n Q (cons_option (option_map (numbered table m) slot) (blocks_in slots table os))
        → (OfNumber n Q (blocks_in slots table os) → OfNumber n P (blocks_in slots table os))
        → OfNumber n P (cons_option (option_map (numbered table m) slot) (blocks_in slots table os))
    by None at found rest = rest found
    by (Some h) at found rest =
        elim (cases_eq m n) [
          | inl same ↦
              let this : P (numbered table m h) = subst (λ k. P (numbered table k h)) (sym same) (so h (subst (λ k. slot_at slots k ≡ Some h) same at)) in
              subst (λ b. MatchBool b (P (numbered table m h)) (OfNumber n P (blocks_in slots table os))) (sym (eq-eqb m n same)) this
          | inr apart ↦
              subst (λ b. MatchBool b (P (numbered table m h)) (OfNumber n P (blocks_in slots table os))) (sym (ne_eqb m n apart))
              (rest (subst (λ b. MatchBool b (Q (numbered table m h)) (OfNumber n Q (blocks_in slots table os))) (ne_eqb m n apart) found))
        ]

-- the block of a slot changed
module _ (slots : List (Option Held)) (table : List Interned) (n : ℕ) (h : Held) (f : BlockState → BlockState) (there : slot_at slots n ≡ Some h) where
  after : Held
  after = record h { block = f h.block }

  change : Numbered → Numbered
  change b = cond (nat_eq b.number n) (record b { block = f b.block }) b

  pub written : (order : List (Option ℕ)) → blocks_in (set slots n (Some (record h { block = f h.block }))) table order ≡ with_block n f (blocks_in slots table order)
  written [] = refl
  written (None ∷ os) = written os
  written (Some m ∷ os) =
      elim (cases_eq m n) [
        | inl same ↦
            let new : slot_at (set slots n (Some (record h { block = f h.block }))) m ≡ Some (record h { block = f h.block }) =
            ap (slot_at (set slots n (Some (record h { block = f h.block })))) same ∙ get_or-set_same slots n (Some (record h { block = f h.block })) None (below_of slots n h there) in
            let old : slot_at slots m ≡ Some h = ap (slot_at slots) same ∙ there in
            ap (λ slot. cons_option (option_map (numbered table m) slot) (blocks_in (set slots n (Some (record h { block = f h.block }))) table os)) new
            ∙ ap (λ bs. numbered table m (record h { block = f h.block }) ∷ bs) (written os)
            ∙ ap (λ b. cond b (numbered table m (record h { block = f h.block })) (numbered table m h) ∷ with_block n f (blocks_in slots table os)) (sym (eq-eqb m n same))
            ∙ ap (λ slot. with_block n f (cons_option (option_map (numbered table m) slot) (blocks_in slots table os))) (sym old)
        | inr apart ↦
            ap (λ slot. cons_option (option_map (numbered table m) slot) (blocks_in (set slots n (Some (record h { block = f h.block }))) table os))
            (get_or-set_other slots n m (Some (record h { block = f h.block })) None apart)
            ∙ other m apart (slot_at slots m) os (written os)
      ]
    where
      other : (m : ℕ) → m ≢ n → (slot : Option Held) (os : List (Option ℕ)) → blocks_in (set slots n (Some (record h { block = f h.block }))) table os ≡ with_block n f (blocks_in slots table os)
          → cons_option (option_map (numbered table m) slot) (blocks_in (set slots n (Some (record h { block = f h.block }))) table os)
          ≡ with_block n f (cons_option (option_map (numbered table m) slot) (blocks_in slots table os))
      other m apart None os is = is
      other m apart (Some k) os is =
          ap (λ bs. numbered table m k ∷ bs) is
          ∙ ap (λ b. cond b (record (numbered table m k) { block = f k.block }) (numbered table m k) ∷ with_block n f (blocks_in slots table os)) (sym (ne_eqb m n apart))

  pub kept-written : beside (record h { block = f h.block }) ≡ beside h → kept (set slots n (Some (record h { block = f h.block }))) ≡ kept slots
  kept-written same =
      map-set_same (option_map beside) slots n (Some (record h { block = f h.block })) None (ap Some same ∙ sym (ap (option_map beside) there))
