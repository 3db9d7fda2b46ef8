use Rattle.std.proofs.Common.{◌≡◌, drop}
use Rattle.std.specs.List.{flat_map}
use Rattle.scenario_record.specs.Uses.{in_part}
use Rattle.scenario_faults.specs.Found.{with_uses}
use Rattle.scenario_faults.proofs.uses.in_parts.Given as goal

-- the parts that are left
abbrev pub invariant-loop-part : goal.invariant-loop-part
invariant-loop-part l = with_uses l.found (flat_map in_part (drop l.part-index l.parts)) ≡ with_uses l.initial.found (flat_map in_part l.parts)
