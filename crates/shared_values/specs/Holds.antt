-- Interned values: for each id how often it is held, its type and its values.
use Rattle.std.specs.Prelude.{ℕ, ◌≡◌, ◌≢◌, ◌+◌, ◌-◌, ◌<◌, ◌≤◌, ◌==◌, if◌then◌else◌, min, max, List, [], length, Option, MatchOption, slice_index_or}
use Rattle.ent_types.specs.declared.value.Value.{Value}
use Rattle.shared_values.specs.declared.table.Slot.{Slot}
use Rattle.shared_values.specs.declared.table.TheConstants.{MOST_HOLDS}

-- the slot of an id that nobody holds
abbrev pub vacant : Slot
vacant = record { key = record { ty = record { 0 = 0 }; values = [] }; holds = 0 }

-- the slot of an id; a vacant one for an id that was never given
abbrev pub slot_at : List Slot → ℕ → Slot
slot_at slots id = slice_index_or slots id vacant

abbrev pub type_of : List Slot → ℕ → ℕ
type_of slots id = (slot_at slots id).key.ty.0

abbrev pub values_of : List Slot → ℕ → List Value
values_of slots id = (slot_at slots id).key.values

-- how often an id is held: how much more often `intern` returned it than it was released
abbrev pub holds_of : List Slot → ℕ → ℕ
holds_of slots id = (slot_at slots id).holds

abbrev pub IsHeld : List Slot → ℕ → Type 0
IsHeld slots id = 0 < holds_of slots id

-- the id is held and has this type and these values
pub record StandsFor (slots : List Slot) (id type_id : ℕ) (values : List Value) : Type 0 where
  pub held : IsHeld slots id
  pub type_is : type_of slots id ≡ type_id
  pub values_are : values_of slots id ≡ values

-- the id stands for these values; without one, no id does
abbrev pub IsFoundFor : List Slot → ℕ → List Value → Option ℕ → Type 0
IsFoundFor slots type_id values found = MatchOption found ((id : ℕ) → StandsFor slots id type_id values → ⊥) (λ id. StandsFor slots id type_id values)

-- no two ids that are held have one type and the same values
abbrev pub AreOneEach : List Slot → Type 0
AreOneEach slots = (a b : ℕ) → IsHeld slots a → IsHeld slots b → type_of slots a ≡ type_of slots b → values_of slots a ≡ values_of slots b → a ≡ b

-- an id that nobody holds; the next fresh one only if each id that was given before is held
pub record IsFreeId (slots : List Slot) (id : ℕ) : Type 0 where
  pub free : holds_of slots id ≡ 0
  pub next : id ≤ length slots
  pub fresh_last : id ≡ length slots → (other : ℕ) → other < length slots → IsHeld slots other

-- The id that `intern` returns: the one that has the values, or else one that nobody holds. It is the next fresh one
-- only if each id that was given before is held.
pub record IsIdFor (slots : List Slot) (type_id : ℕ) (values : List Value) (id : ℕ) : Type 0 where
  pub known : (other : ℕ) → StandsFor slots other type_id values → id ≡ other
  pub else_free : IsHeld slots id → StandsFor slots id type_id values
  pub next : id ≤ length slots
  pub fresh_last : id ≡ length slots → (other : ℕ) → other < length slots → IsHeld slots other

-- the slot of an id that was given for these values once more; the count stops at its greatest number
abbrev pub held_once_more : List Slot → ℕ → ℕ → List Value → Slot
held_once_more slots id type_id values = record { key = record { ty = record { 0 = type_id }; values = values }; holds = min (holds_of slots id + 1) MOST_HOLDS }

-- the slot after it was released once; after the last time it is vacant, and a count that has stopped stays
abbrev pub held_once_less : Slot → Slot
held_once_less slot =
    if slot.holds == MOST_HOLDS then slot
    else (if slot.holds == 1 then vacant
    else record slot { holds = slot.holds - 1 })

-- one id has this slot now, and each other id has the slot that it had
pub record ChangesTo (old new : List Slot) (id : ℕ) (slot : Slot) : Type 0 where
  pub there : slot_at new id ≡ slot
  pub others : (other : ℕ) → other ≢ id → slot_at new other ≡ slot_at old other
  pub given : length new ≡ max (length old) (id + 1)
