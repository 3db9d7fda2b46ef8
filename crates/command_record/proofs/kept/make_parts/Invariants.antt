use Rattle.std.proofs.Common.{◌≡◌, ◌≤◌, ◌++◌, length, drop}
use Rattle.command_record.specs.Kept.{count_in, parts_from}
use Rattle.command_record.proofs.kept.make_parts.Given as goal

abbrev pub invariant-loop-head : goal.invariant-loop-head
invariant-loop-head l =
    (l.parts.items ++ parts_from (drop l.head-index l.heads) l.rest ≡ parts_from l.heads l.values)
    × (count_in (drop l.head-index l.heads) ≤ length l.rest)
