use Rattle.std.proofs.Common.{◌≡◌, ◌++◌, map, take}
use Rattle.command_record.specs.Kept.{part_head_of, values_in}
use Rattle.command_record.proofs.kept.keep_parts.Given as goal

abbrev pub invariant-loop-part : goal.invariant-loop-part
invariant-loop-part l =
    (l.heads.items ≡ l.initial.heads.items ++ map part_head_of (take l.part-index l.parts))
    × (l.values.items ≡ l.initial.values.items ++ values_in (take l.part-index l.parts))
