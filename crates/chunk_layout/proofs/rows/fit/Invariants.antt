use Rattle.std.proofs.Common.{◌≡◌, ◌+◌, ◌≤◌, sum_by, drop}
use Rattle.chunk_layout.specs.Capacity.{column_bytes, block_bytes}
use Rattle.chunk_layout.proofs.rows.fit.Given as goal

-- the columns so far fit, and those that are left make up the rest
abbrev pub invariant-loop-size : goal.invariant-loop-size
invariant-loop-size l = record {
  left : l.bytes + sum_by (column_bytes l.rows) (drop l.size-index l.sizes) ≡ block_bytes l.sizes l.rows;
  within : l.bytes ≤ 16320;
}
