-- The ids of blocks have the types of their parts.
use Rattle.std.proofs.Common.{ℕ, ◌<◌, ◌≤◌, inl, inr, List, length, set, Option, None, sym, ap, ◌∙◌, subst}
use Rattle.std.proofs.lemmas.Bool.{cases_eq}
use Rattle.std.proofs.lemmas.List.{get_or-set_same, get_or-set_other}
use Rattle.shared_values.specs.declared.table.Slot.{Slot as Interned}
use Rattle.archetype_store.specs.Holding.{AreTyped, KeepsValues}
use Rattle.archetype_store.specs.Slots.{put_slot, slot_at}
use Rattle.archetype_store.specs.Inside.{AreAllTyped, Beside, all_ids}
use Rattle.archetype_store.proofs.Orders.{none_some, put-other, put-same, some_is}
use Rattle.archetype_store.proofs.Holding.{typed-kept}
use Rattle.archetype_store.proofs.Added.{among}

pub typed-all : (old new : List Interned) (slots : List (Option Beside)) → KeepsValues old new (all_ids slots) → AreAllTyped old slots → AreAllTyped new slots
typed-all old new slots keeps typed n x at = typed-kept old new x.shared (λ id is. keeps.types id (among slots n x at id is)) (typed n x at)

pub typed-put : (table : List Interned) (slots : List (Option Beside)) (n : ℕ) (x : Beside) → n ≤ length slots → AreTyped table x.shared → AreAllTyped table slots → AreAllTyped table (put_slot slots n x)
typed-put table slots n x within this typed m y at =
    elim (cases_eq m n) [
      | inl same ↦ subst (λ (z : Beside). AreTyped table z.shared) (some_is x y (sym (ap (slot_at (put_slot slots n x)) same ∙ put-same slots n x within) ∙ at)) this
      | inr apart ↦ typed m y (sym (put-other slots n m x within apart) ∙ at)
    ]

pub typed-gone : (table : List Interned) (slots : List (Option Beside)) (n : ℕ) → n < length slots → AreAllTyped table slots → AreAllTyped table (set slots n None)
typed-gone table slots n below typed m y at =
    elim (cases_eq m n) [
      | inl same ↦ absurd (none_some y (sym (ap (slot_at (set slots n None)) same ∙ get_or-set_same slots n None None below) ∙ at))
      | inr apart ↦ typed m y (sym (get_or-set_other slots n m None None apart) ∙ at)
    ]
