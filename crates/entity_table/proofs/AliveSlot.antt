-- The slot of an alive entity, and what the table is after a write to it.
use Rattle.std.proofs.Common.{◌≡◌, ◌≢◌, ℕ, ◌<◌, List, [], ◌∷◌, ◌++◌, length, Option, Some, None, get_or, set, refl, sym, ap, ap₂, ◌∙◌, arith}
use Rattle.std.proofs.lemmas.List.{map-set, get_or-map, length-map, get_or-set_same, get_or-set_other}
use Rattle.std.proofs.Math.Seq.{map-set_same}
use Rattle.ent_types.specs.declared.entity.Entity.{Entity}
use Rattle.entity_table.specs.declared.table.Place.{Place}
use Rattle.entity_table.specs.declared.table.Slot.{Slot}
use Rattle.entity_table.specs.declared.table.EntityTable.TheInside.{Inside}
use Rattle.entity_table.specs.Table.{Table, Holder, place_at, IsAlive, Rebinds, with_place}
use Rattle.entity_table.specs.Slots.{holder_of, holders_of, versions_of, free_of, table_of, AreFree}
use Rattle.entity_table.proofs.TableLemmas.{alive_at, alive_below, rebinds, only_version}
use Rattle.entity_table.proofs.SlotLemmas.{slot_version, counts, not_stacked, free_of-push, free_of-set}

-- a table by its parts
abbrev pub table_with : List (Option Holder) → List Entity → ℕ → Table
table_with holders free first = record { holders = holders; free = free; first_version = first }

-- a table by the lists that it is made of
abbrev pub table_from : List (Option Holder) → List ℕ → List ℕ → ℕ → Table
table_from holders versions stack first = table_with holders (free_of versions stack) first

-- the slots with another one at an index have its holder there, and its version
pub holders_of-set : (slots : List Slot) (i : ℕ) (slot : Slot) → holders_of (set slots i slot) ≡ set (holders_of slots) i (holder_of slot)
holders_of-set slots i slot = map-set holder_of slots i slot

pub versions_of-set : (slots : List Slot) (i : ℕ) (slot : Slot) → versions_of (set slots i slot) ≡ set (versions_of slots) i slot.version
versions_of-set slots i slot = map-set (λ s. s.version) slots i slot

pub versions_of-same : (slots : List Slot) (i : ℕ) (slot old : Slot) → old ≡ get_or slots i old → slot.version ≡ old.version → versions_of (set slots i slot) ≡ versions_of slots
versions_of-same slots i slot old read same = map-set_same (λ s. s.version) slots i slot old (same ∙ ap (λ s. s.version) read)

-- a change of one index of the holders, where only this entity was and is
pub rebinds_set : (old new : Table) (e : Entity) (held : Option Holder) (place : Option Place)
    → IsAlive old e → new.holders ≡ set old.holders e.index held
    → ((version : ℕ) → version ≢ e.version → place_at version held ≡ None) → place_at e.version held ≡ place → Rebinds old new e place
rebinds_set old new e held place alive changed only here =
    let at : get_or new.holders e.index None ≡ held =
    ap (λ hs. get_or hs e.index None) changed ∙ get_or-set_same old.holders e.index held None (alive_below old e alive) in
    rebinds old new e place
    (λ j apart. ap (λ hs. get_or hs j None) changed ∙ get_or-set_other old.holders e.index j held None apart)
    (only_version old e alive)
    (λ version other. ap (place_at version) at ∙ only version other)
    (ap (place_at e.version) at ∙ here)

module _ (t : Inside) (e : Entity) (slot : Slot) (alive : IsAlive (table_of t) e) (read : slot ≡ get_or t.slots.items e.index slot) where
  pub index_below : e.index < length (holders_of t.slots.items)
  index_below = alive_below (table_of t) e alive

  pub held_place : (place : Place) × (get_or (holders_of t.slots.items) e.index None ≡ Some (record { version = e.version; place = place }))
  held_place = alive_at e.version (get_or (holders_of t.slots.items) e.index None) alive

  pub version_is : slot.version ≡ e.version
  version_is =
      let below : e.index < length t.slots.items = omega (arith, length-map t.slots.items holder_of, index_below) in
      slot_version slot e.version held_place.0
      (ap holder_of read ∙ sym (get_or-map holder_of t.slots.items e.index slot None below) ∙ held_place.1)

  pub apart_from_free : AreFree (holders_of t.slots.items) t.free.items → (j : ℕ) → j < length t.free.items → get_or t.free.items j 0 ≢ e.index
  apart_from_free free = not_stacked (holders_of t.slots.items) t.free.items e.index (record { version = e.version; place = held_place.0 }) free held_place.1

  pub was_counted : counts (get_or (holders_of t.slots.items) e.index None) ≡ 1
  was_counted = ap counts held_place.1

  -- the slot with another place
  pub table_of-moved : (place : Place) →
      table_from (holders_of (set t.slots.items e.index (record { version = slot.version; place = Some place })))
      (versions_of (set t.slots.items e.index (record { version = slot.version; place = Some place }))) t.free.items t.first_version
      ≡ with_place (table_of t) e place
  table_of-moved place =
      ap₂ (λ hs vs. table_from hs vs t.free.items t.first_version)
      (holders_of-set t.slots.items e.index _ ∙ ap (λ v. set (holders_of t.slots.items) e.index (Some (let h : Holder = record { version = v; place = place } in h))) version_is)
      (versions_of-same t.slots.items e.index _ slot read refl)

  -- the slot without a place, and its index on the stack with another version
  pub free_of-freed : (version : ℕ) → AreFree (holders_of t.slots.items) t.free.items →
      free_of (versions_of (set t.slots.items e.index (record { version = version; place = None }))) (t.free.items ++ e.index ∷ [])
      ≡ (record { index = e.index; version = version }) ∷ free_of (versions_of t.slots.items) t.free.items
  free_of-freed version free =
      let below : e.index < length (versions_of t.slots.items) =
      omega (arith, length-map t.slots.items holder_of, length-map t.slots.items (λ s. s.version), index_below) in
      ap (λ vs. free_of vs (t.free.items ++ e.index ∷ [])) (versions_of-set t.slots.items e.index _)
      ∙ free_of-push _ t.free.items e.index
      ∙ ap₂ (λ (v : ℕ) (es : List Entity). (let d : Entity = record { index = e.index; version = v } in d) ∷ es)
      (get_or-set_same (versions_of t.slots.items) e.index version 0 below)
      (free_of-set (versions_of t.slots.items) t.free.items e.index version (apart_from_free free))
