use Rattle.std.proofs.Common.{◌≡◌, drop}
use Rattle.std.specs.List.{flat_map}
use Rattle.scenario_record.specs.Uses.{in_value}
use Rattle.scenario_faults.specs.Found.{with_uses}
use Rattle.scenario_faults.proofs.uses.in_part.Given as goal

-- the values that are left
abbrev pub invariant-loop-value : goal.invariant-loop-value
invariant-loop-value l = with_uses l.found (flat_map in_value (drop l.value-index l.part.values)) ≡ with_uses l.initial.found (flat_map in_value l.part.values)
