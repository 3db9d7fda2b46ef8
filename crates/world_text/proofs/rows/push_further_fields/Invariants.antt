use Rattle.std.proofs.Common.{◌≡◌, ◌++◌, codes, drop}
use Rattle.std.specs.List.{flat_map}
use Rattle.block_columns.specs.Types.{cell_in}
use Rattle.world_text.specs.Lines.{value_text}
use Rattle.world_text.proofs.rows.push_further_fields.Given as goal

-- the values so far, and those that are left
abbrev pub invariant-loop-field : goal.invariant-loop-field
invariant-loop-field l =
    l.line.items ++ flat_map (λ v. codes "," ++ value_text v) (drop l.field (cell_in l.row l.rows.cells).values)
    ≡ l.fn.line.items ++ flat_map (λ v. codes "," ++ value_text v) (drop 1 (cell_in l.row l.rows.cells).values)
