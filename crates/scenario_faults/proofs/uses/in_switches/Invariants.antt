use Rattle.std.proofs.Common.{◌≡◌, drop}
use Rattle.std.specs.List.{flat_map}
use Rattle.scenario_record.specs.Uses.{in_switch}
use Rattle.scenario_faults.specs.Found.{with_uses}
use Rattle.scenario_faults.proofs.uses.in_switches.Given as goal

-- the switches that are left
abbrev pub invariant-loop-switch : goal.invariant-loop-switch
invariant-loop-switch l = with_uses l.found (flat_map in_switch (drop l.switch-index l.switches)) ≡ with_uses l.initial.found (flat_map in_switch l.switches)
