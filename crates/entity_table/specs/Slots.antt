-- The table as it is kept: one slot for each index made, and a stack of the free indexes.
use Rattle.std.specs.Prelude.{◌≡◌, ℕ, ◌+◌, ◌-◌, ◌<◌, ◌≤◌, List, [], ◌∷◌, length, drop, Option, None, Some, map, reverse, count_by, is_some, slice_index, slice_index_or}
use Rattle.std.specs.Option.{option_map}
use Rattle.std.specs.Vec.{vec_capacity}
use Rattle.ent_types.specs.declared.entity.Entity.{Entity}
use Rattle.ent_types.specs.declared.limits.TheConstants.{MOST_ENTITIES, MOST_INDEXES}
use Rattle.entity_table.specs.declared.table.Place.{Place}
use Rattle.entity_table.specs.declared.table.Slot.{Slot}
use Rattle.entity_table.specs.declared.table.EntityTable.TheInside.{Inside}
use Rattle.entity_table.specs.Table.{Table, Spared, Holder, living_from}

-- the alive entity of a slot
abbrev pub holder_of : Slot → Option Holder
holder_of slot = option_map (λ place. record { version = slot.version; place = place }) slot.place

abbrev pub holders_of : List Slot → List (Option Holder)
holders_of slots = map holder_of slots

-- the versions that the indexes have now, or will have when they are given next
abbrev pub versions_of : List Slot → List ℕ
versions_of slots = map (λ slot. slot.version) slots

-- the entity that an index gives
abbrev pub entity_at : List ℕ → ℕ → Entity
entity_at versions index = record { index = index; version = slice_index versions index }

-- the free entities, from the top of the stack
abbrev pub free_of : List ℕ → List ℕ → List Entity
free_of versions stack = map (entity_at versions) (reverse stack)

abbrev pub table_of : Inside → Table
table_of t = record {
  holders = holders_of t.slots.items;
  free = free_of (versions_of t.slots.items) t.free.items;
  first_version = t.first_version;
}

abbrev pub spared_of : Inside → Spared
spared_of t = record { table = table_of t; spare = t.spare }

-- each version is at least 1, so no entity is null
abbrev pub AreVersions : List ℕ → Type 0
AreVersions versions = (k : ℕ) → k < length versions → 1 ≤ slice_index versions k

-- the stack has each index at most once
abbrev pub IsEachOnce : List ℕ → Type 0
IsEachOnce stack = (j k : ℕ) → j < k → k < length stack → slice_index stack j ≡ slice_index stack k → ⊥

-- the indexes of the stack were made, and no entity is alive there
abbrev pub AreFree : List (Option Holder) → List ℕ → Type 0
AreFree holders stack = (j : ℕ) → j < length stack → (slice_index stack j < length holders) × (slice_index_or holders (slice_index stack j) None ≡ None)

-- What every table keeps: which indexes are free, the versions, the counts, and room for what is spare and for what
-- may become free
pub record IsConsistent (t : Inside) : Type 0 where
  pub once : IsEachOnce t.free.items
  pub free : AreFree (holders_of t.slots.items) t.free.items
  pub versions : AreVersions (versions_of t.slots.items)
  pub first : 1 ≤ t.first_version
  pub alive : t.alive ≡ count_by is_some (holders_of t.slots.items)
  pub counted : t.alive + length t.free.items ≤ length t.slots.items
  pub most_alive : t.alive + t.spare ≤ MOST_ENTITIES
  pub most_made : length t.slots.items + (t.spare - length t.free.items) ≤ MOST_INDEXES
  pub slots_room : length t.slots.items + (t.spare - length t.free.items) ≤ vec_capacity t.slots
  pub free_room : length t.slots.items + (t.spare - length t.free.items) ≤ vec_capacity t.free

-- the first slot of an alive entity: where it is, and the entity's version and place
abbrev pub FindsFirst : List Slot → Option (ℕ × ℕ × Place) → Type 0
FindsFirst slots None = (index : ℕ) → living_from index (holders_of slots) ≡ []
FindsFirst slots (Some found) =
    (found.0 < length slots)
    × ((index : ℕ) → living_from index (holders_of slots) ≡ (record { index = index + found.0; version = found.1 }, found.2) ∷ living_from (index + found.0 + 1) (holders_of (drop (found.0 + 1) slots)))
