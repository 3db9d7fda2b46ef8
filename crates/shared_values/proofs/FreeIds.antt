-- The stack of the free ids: each once, and exactly those that were given and are not held.
use Rattle.std.proofs.Common.{◌≡◌, ◌≢◌, ℕ, suc, ◌-◌, ◌<◌, ◌≤◌, ◌&&◌, ◌||◌, ◌==◌, Bool, true, false, inl, inr, List, [], ◌∷◌, ◌++◌, length, take, set, subst, Some, nat_eq, nat_lt, refl, sym, ap, ap₂, ◌∙◌, arith}
use Rattle.std.specs.Cmp.{nat_eq_equiv}
use Rattle.std.specs.List.{list_any, IsDistinct, slice_get}
use Rattle.std.proofs.lemmas.Bool.{cases_eq, cases_Bool, and_parts, and_from, and_right, or_from, eqb-true, eqb-false, eq-eqb, ne_eqb, ltb-true, ltb-false, lt-ltb, le-ltb}
use Rattle.std.proofs.lemmas.List.{get_or_append_left, length-append, take_all}
use Rattle.std.proofs.lemmas.List.Folds.{list_any-append}
use Rattle.std.proofs.lemmas.Map.Keys.{IsDistinct-tail, IsDistinct-push, apart_from_distinct, IsDistinct-from_apart}
use Rattle.std.proofs.lemmas.Map.Steps.{length-le_from_distinct_below}
use Rattle.std.proofs.lemmas.Option.{slice_get_within, get_or_from_slice_get}
use Rattle.std.proofs.Math.Seq.{get_or-append_seam, take-suc}
use Rattle.shared_values.specs.declared.table.Slot.{Slot}
use Rattle.shared_values.specs.Holds.{holds_of, IsHeld, ChangesTo}
use Rattle.shared_values.specs.Tables.{is_free, AreFree}
use Rattle.shared_values.proofs.Changes.{held_below, changes-set}

-- ---- the top of the stack

once_front : (rest : List ℕ) (id : ℕ) → IsDistinct nat_eq (rest ++ id ∷ []) → IsDistinct nat_eq rest
once_front rest id once =
    IsDistinct-from_apart nat_eq rest (λ i j d before below.
    ap₂ nat_eq (sym (get_or_append_left rest (id ∷ []) d i (omega arith))) (sym (get_or_append_left rest (id ∷ []) d j below))
    ∙ apart_from_distinct nat_eq (rest ++ id ∷ []) i j d once before (omega (arith, length-append rest (id ∷ []))))

once_top : (rest : List ℕ) (id : ℕ) → IsDistinct nat_eq (rest ++ id ∷ []) → list_any (nat_eq id) rest ≡ false
once_top [] id once = refl
once_top (x ∷ xs) id once =
    let apart : nat_eq x id ≡ false =
    ap (nat_eq x) (sym (get_or-append_seam xs id [] 0))
    ∙ apart_from_distinct nat_eq ((x ∷ xs) ++ id ∷ []) 0 (suc (length xs)) 0 once (omega arith) (omega (arith, length-append xs (id ∷ []))) in
    or_from (nat_eq id x) (list_any (nat_eq id) xs)
    (ne_eqb id x (λ same. eqb-false x id apart (sym same)))
    (once_top xs id (IsDistinct-tail nat_eq x (xs ++ id ∷ []) once))

any_top : (rest : List ℕ) (id q : ℕ) → list_any (nat_eq q) (rest ++ id ∷ []) ≡ (list_any (nat_eq q) rest || (nat_eq q id || false))
any_top rest id q = list_any-append (nat_eq q) rest (id ∷ [])

or-false : (b c : Bool) → c ≡ false → (b || (c || false)) ≡ b
or-false true c h = refl
or-false false c h = ap (λ d. d || false) h

or-true : (b c : Bool) → c ≡ true → (b || (c || false)) ≡ true
or-true true c h = refl
or-true false c h = ap (λ d. d || false) h

any_other : (rest : List ℕ) (id q : ℕ) → q ≢ id → list_any (nat_eq q) (rest ++ id ∷ []) ≡ list_any (nat_eq q) rest
any_other rest id q apart = any_top rest id q ∙ or-false _ (nat_eq q id) (ne_eqb q id apart)

any_here : (rest : List ℕ) (id : ℕ) → list_any (nat_eq id) (rest ++ id ∷ []) ≡ true
any_here rest id = any_top rest id id ∙ or-true _ (nat_eq id id) (eq-eqb id id refl)

-- ---- which ids are free

pub is_free-held : (slots : List Slot) (id : ℕ) → IsHeld slots id → is_free slots id ≡ false
is_free-held slots id held = and_right (nat_lt id (length slots)) (holds_of slots id == 0) (ne_eqb (holds_of slots id) 0 (λ none. omega arith))

free_id : (slots : List Slot) (id : ℕ) → is_free slots id ≡ true → (id < length slots) × (holds_of slots id ≡ 0)
free_id slots id free =
    let parts = and_parts (nat_lt id (length slots)) (holds_of slots id == 0) free in
    (ltb-true id (length slots) parts.0, eqb-true (holds_of slots id) 0 parts.1)

is_free-from : (slots : List Slot) (id : ℕ) → id < length slots → holds_of slots id ≡ 0 → is_free slots id ≡ true
is_free-from slots id below none = and_from _ _ (lt-ltb id (length slots) below) (eq-eqb (holds_of slots id) 0 none)

module _ (old new : List Slot) (id : ℕ) (slot : Slot) (changes : ChangesTo old new id slot) where
  -- an id other than the one that changed is as free as before
  is_free-other : (other : ℕ) → other ≢ id → id ≤ length old → is_free new other ≡ is_free old other
  is_free-other other apart next =
      ap₂ (λ b n. b && n == 0)
      (elim (cases_Bool (nat_lt other (length old))) [
        | inl below ↦ lt-ltb other (length new) (omega (arith, changes.given, ltb-true other (length old) below)) ∙ sym below
        | inr past ↦ le-ltb other (length new) (omega (arith, changes.given, past_end past)) ∙ sym past
      ])
      (ap (λ (s : Slot). s.holds) (changes.others other apart))
    where
      past_end : nat_lt other (length old) ≡ false → length old ≤ other
      past_end past = ltb-false other (length old) past

  holds_now : (other : ℕ) → other ≡ id → holds_of new other ≡ slot.holds
  holds_now other e = ap (holds_of new) e ∙ ap (λ (s : Slot). s.holds) changes.there

  held_now : (other : ℕ) → other ≡ id → 0 < slot.holds → IsHeld new other
  held_now other e held = omega (arith, holds_now other e)

  -- the top of the stack is held
  free-taken : (rest : List ℕ) → AreFree old (rest ++ id ∷ []) → IsDistinct nat_eq (rest ++ id ∷ []) → 0 < slot.holds → AreFree new rest
  free-taken rest free once held other =
      elim (cases_eq other id) [
        | inl e ↦ ap (λ n. list_any (nat_eq n) rest) e ∙ once_top rest id once ∙ sym (is_free-held new other (held_now other e held))
        | inr apart ↦
            let was : (id < length old) × (holds_of old id ≡ 0) = free_id old id (sym (free id) ∙ any_here rest id) in
            sym (any_other rest id other apart) ∙ free other ∙ sym (is_free-other other apart (omega arith))
      ]

  -- an id is held no longer
  pub free-given : (stack : List ℕ) → AreFree old stack → IsHeld old id → slot.holds ≡ 0 → AreFree new (stack ++ id ∷ [])
  free-given stack free held none other =
      elim (cases_eq other id) [
        | inl e ↦
            let zero : holds_of new other ≡ 0 = holds_now other e ∙ none in
            ap (λ n. list_any (nat_eq n) (stack ++ id ∷ [])) e ∙ any_here stack id ∙ sym (is_free-from new other (omega (arith, changes.given)) zero)
        | inr apart ↦
            let below : id < length old = held_below old id held in
            any_other stack id other apart ∙ free other ∙ sym (is_free-other other apart (omega arith))
      ]

  -- where none was free, a fresh id is held
  pub free-fresh : AreFree old [] → id ≡ length old → 0 < slot.holds → AreFree new []
  free-fresh free fresh held other =
      elim (cases_eq other id) [
        | inl e ↦ sym (is_free-held new other (held_now other e held))
        | inr apart ↦ free other ∙ sym (is_free-other other apart (omega arith))
      ]

-- the stack has room for an id that is held
pub room_for : (slots : List Slot) (stack : List ℕ) (id : ℕ) → AreFree slots stack → IsDistinct nat_eq stack → IsHeld slots id → length stack < length slots
room_for slots stack id free once held =
    let all_once : IsDistinct nat_eq (stack ++ id ∷ []) =
    IsDistinct-push nat_eq_equiv stack id once (free id ∙ is_free-held slots id held) in
    let counted : length (stack ++ id ∷ []) ≤ length slots =
    length-le_from_distinct_below (stack ++ id ∷ []) (length slots) all_once below in
    omega (arith, length-append stack (id ∷ []))
  where
    below : (q : ℕ) → list_any (nat_eq q) (stack ++ id ∷ []) ≡ true → q < length slots
    below q there =
        elim (cases_eq q id) [
          | inl e ↦ omega (arith, held_below slots id held)
          | inr apart ↦ (free_id slots q (sym (free q) ∙ sym (any_other stack id q apart) ∙ there)).0
        ]

-- the top of the stack stands last
stack_split : (stack rest : List ℕ) (id : ℕ) → slice_get stack (length stack - 1) ≡ Some id → rest ≡ take (length stack - 1) stack
    → stack ≡ rest ++ id ∷ []
stack_split stack rest id top front =
    let last = length stack - 1 in
    let within : last < length stack = slice_get_within stack last id top in
    let whole : length stack ≡ suc last = omega arith in
    sym (take_all (suc last) stack (omega arith))
    ∙ take-suc stack last id within
    ∙ ap₂ (λ xs x. xs ++ x ∷ []) (sym front) (get_or_from_slice_get stack last id id top)

-- what is known of an id that was taken from the top of the stack, and of what is left
pub record IsTop (slots : List Slot) (rest : List ℕ) (id : ℕ) : Type 0 where
  pub below : id < length slots
  pub none : holds_of slots id ≡ 0
  pub once : IsDistinct nat_eq rest
  pub left : (slot : Slot) → 0 < slot.holds → AreFree (set slots id slot) rest

pub top_from : (slots : List Slot) (stack rest : List ℕ) (id n : ℕ) → AreFree slots stack → IsDistinct nat_eq stack → n ≡ length stack
    → slice_get stack (length stack - 1) ≡ Some id → rest ≡ take (n - 1) stack → IsTop slots rest id
top_from slots stack rest id n free once counted top front =
    let split : stack ≡ rest ++ id ∷ [] = stack_split stack rest id top (front ∙ ap (λ m. take (m - 1) stack) counted) in
    let all_free = subst (AreFree slots) split free in
    let all_once = subst (IsDistinct nat_eq) split once in
    let was = free_id slots id (sym (all_free id) ∙ any_here rest id) in
    record {
      below = was.0;
      none = was.1;
      once = once_front rest id all_once;
      left = λ slot held. free-taken slots (set slots id slot) id slot (changes-set slots id slot was.0) rest all_free all_once held;
    }
