use Rattle.std.proofs.Common.{◌≡◌, ◌<◌, ◌≤◌, length, map}
use Rattle.entity_table.specs.declared.table.Place.{Place}
use Rattle.entity_table.specs.Table.{living}
use Rattle.world_model.specs.Members.{In}
use Rattle.archetype_store.specs.Stores.{OfBlock}
use Rattle.structural_ops.specs.Attaching.{AreNew, all_made, all_named, place_of_item}
use Rattle.structural_ops.proofs.attach.name_rows.Given as goal

-- the rows that are left make the store and the table what all rows make of them
abbrev pub invariant-loop-place : goal.invariant-loop-place
invariant-loop-place l = record {
  store : all_named (map place_of_item l.place-iterator) l.table.table l.store ≡ all_named (map place_of_item (living l.scene.table)) l.initial.table.table l.initial.store;
  table : all_made (map place_of_item l.place-iterator) l.table.table ≡ all_made (map place_of_item (living l.scene.table)) l.initial.table.table;
  new : AreNew (map place_of_item l.place-iterator) l.table.table → AreNew (map place_of_item (living l.scene.table)) l.initial.table.table;
  spare : length l.place-iterator ≤ l.table.spare;
  rows : (p : Place) → In p (map place_of_item l.place-iterator) → OfBlock p.block (λ b. p.row < length b.rows) l.store.blocks;
}
