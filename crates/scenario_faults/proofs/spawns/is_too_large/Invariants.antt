use Rattle.std.proofs.Common.{◌≡◌, ◌≤◌, ◌+◌, drop, map, sum_by}
use Rattle.ent_types.specs.Registries.{type_at}
use Rattle.ent_types.specs.Types.{column_size}
use Rattle.chunk_layout.specs.declared.rows.TheConstants.{COLUMN_ROOM}
use Rattle.chunk_layout.specs.Capacity.{column_bytes, block_bytes}
use Rattle.scenario_faults.proofs.spawns.is_too_large.Given as goal

-- the columns that are left
abbrev pub invariant-loop-part : goal.invariant-loop-part
invariant-loop-part l = record {
  left : l.bytes + sum_by (column_bytes 1) (map (λ part. column_size (type_at l.registry part.ty.0)) (drop l.part-index l.parts)) ≡ block_bytes (map (λ part. column_size (type_at l.registry part.ty.0)) l.parts) 1;
  within : l.bytes ≤ COLUMN_ROOM;
}
