-- What a change of one slot does, and which ids have one.
use Rattle.std.proofs.Common.{◌≡◌, ◌≢◌, ℕ, ◌<◌, inl, inr, List, [], ◌∷◌, ◌++◌, length, set, refl, sym, ap, ◌∙◌, arith}
use Rattle.std.proofs.lemmas.Bool.{cases_lt}
use Rattle.std.proofs.lemmas.List.{get_or_past, get_or-set_same, get_or-set_other, length-set, length-append, get_or_append_left}
use Rattle.std.proofs.Math.Seq.{get_or-append_seam}
use Rattle.shared_values.specs.declared.table.Slot.{Slot}
use Rattle.shared_values.specs.Holds.{vacant, slot_at, holds_of, IsHeld, ChangesTo}

-- an id that is held was given
pub held_below : (slots : List Slot) (id : ℕ) → IsHeld slots id → id < length slots
held_below slots id held =
    elim (cases_lt id (length slots)) [
      | inl below ↦ below
      | inr past ↦ let none : holds_of slots id ≡ 0 = ap (λ (s : Slot). s.holds) (get_or_past slots id vacant past) in absurd (omega arith)
    ]

-- the next fresh id is not held
pub fresh_free : (slots : List Slot) (id : ℕ) → id ≡ length slots → holds_of slots id ≡ 0
fresh_free slots id fresh = ap (λ (s : Slot). s.holds) (get_or_past slots id vacant (omega arith))

pub changes-set : (slots : List Slot) (id : ℕ) (slot : Slot) → id < length slots → ChangesTo slots (set slots id slot) id slot
changes-set slots id slot below = record {
  there = get_or-set_same slots id slot vacant below;
  others = λ other apart. get_or-set_other slots id other slot vacant apart;
  given = omega (arith, length-set slots id slot);
}

at_or_past : (slots : List Slot) (slot : Slot) (other : ℕ) → other ≢ length slots → slot_at (slots ++ slot ∷ []) other ≡ slot_at slots other
at_or_past slots slot other apart =
    elim (cases_lt other (length slots)) [
      | inl below ↦ get_or_append_left slots (slot ∷ []) vacant other below
      | inr past ↦
          get_or_past (slots ++ slot ∷ []) other vacant (omega (arith, length-append slots (slot ∷ []))) ∙ sym (get_or_past slots other vacant past)
    ]

pub changes-push : (slots : List Slot) (slot : Slot) → ChangesTo slots (slots ++ slot ∷ []) (length slots) slot
changes-push slots slot = record {
  there = get_or-append_seam slots slot [] vacant;
  others = at_or_past slots slot;
  given = omega (arith, length-append slots (slot ∷ []));
}

-- a release that leaves a slot as it is
pub changes-none : (slots : List Slot) (id : ℕ) (slot : Slot) → IsHeld slots id → slot ≡ slot_at slots id → ChangesTo slots slots id slot
changes-none slots id slot held same = record {
  there = sym same;
  others = λ other apart. refl;
  given = omega (arith, held_below slots id held);
}
