use Rattle.std.proofs.Common.{◌≡◌, drop}
use Rattle.structural_ops.specs.Attaching.{rows_noted}
use Rattle.structural_ops.proofs.Noting.{AllAlive}
use Rattle.structural_ops.proofs.attach.note_rows.Given as goal

-- the rows that are left make the table what all rows make of it
abbrev pub invariant-loop-row : goal.invariant-loop-row
invariant-loop-row l = record {
  noted : rows_noted l.number l.row (drop l.row l.block.rows) l.table.table ≡ rows_noted l.number 0 l.block.rows l.initial.table.table;
  alive : AllAlive (drop l.row l.block.rows) l.table.table;
}
