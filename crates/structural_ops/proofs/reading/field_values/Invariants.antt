use Rattle.std.proofs.Common.{◌≡◌, take}
use Rattle.chunk_block.specs.Blocks.{content_at, row_in}
use Rattle.structural_ops.proofs.reading.field_values.Given as goal

-- the values of the fields so far
abbrev pub invariant-loop-field : goal.invariant-loop-field
invariant-loop-field l = l.values ≡ take l.field (content_at l.ty.0 (row_in l.row l.block.rows).cells).values
