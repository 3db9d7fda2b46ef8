use Rattle.std.proofs.Common.{◌≡◌, drop}
use Rattle.std.specs.List.{flat_map}
use Rattle.scenario_record.specs.Uses.{in_assign}
use Rattle.scenario_faults.specs.Found.{with_uses}
use Rattle.scenario_faults.proofs.uses.in_assigns.Given as goal

-- the assigns that are left
abbrev pub invariant-loop-assign : goal.invariant-loop-assign
invariant-loop-assign l = with_uses l.found (flat_map in_assign (drop l.assign-index l.assigns)) ≡ with_uses l.initial.found (flat_map in_assign l.assigns)
