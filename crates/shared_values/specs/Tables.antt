-- The table as it is kept: a slot for each id that was given, a stack of the free ids, and a map from keys to ids.
use Rattle.std.specs.Prelude.{ℕ, ◌≡◌, ◌≤◌, ◌==◌, ◌&&◌, ◌↔◌, Bool, List, length, Option, Some, nat_eq, nat_lt}
use Rattle.std.specs.List.{list_any, IsDistinct}
use Rattle.std.specs.HashMap.{get}
use Rattle.std.specs.Vec.{vec_capacity}
use Rattle.shared_values.specs.declared.key.Key.{Key}
use Rattle.shared_values.specs.declared.table.Slot.{Slot}
use Rattle.shared_values.specs.declared.table.SharedTable.TheInside.{Inside}
use Rattle.shared_values.specs.Keys.{same_key}
use Rattle.shared_values.specs.Holds.{slot_at, holds_of, IsHeld}

-- true if an id was given and is not held
abbrev pub is_free : List Slot → ℕ → Bool
is_free slots id = nat_lt id (length slots) && holds_of slots id == 0

-- the stack has exactly the ids that were given and are not held
abbrev pub AreFree : List Slot → List ℕ → Type 0
AreFree slots stack = (id : ℕ) → list_any (nat_eq id) stack ≡ is_free slots id

-- the id is held for this key
abbrev pub IsFor : List Slot → ℕ → Key → Type 0
IsFor slots id key = IsHeld slots id × ((slot_at slots id).key ≡ key)

-- an id is found by a key if and only if it is held for that key
abbrev pub AreFound : List Slot → (Key → Option ℕ) → Type 0
AreFound slots found = (key : Key) (id : ℕ) → (found key ≡ Some id) ↔ IsFor slots id key

-- what each table keeps: the free ids, each once, the ids by their keys, and room on the stack for all ids
pub record IsConsistent (t : Inside) : Type 0 where
  pub once : IsDistinct nat_eq t.free.items
  pub free : AreFree t.slots.items t.free.items
  pub ids : AreFound t.slots.items (get same_key t.ids)
  pub room : length t.slots.items ≤ vec_capacity t.free
