use Rattle.std.proofs.Common.{◌≡◌, [], take, drop}
use Rattle.scenario_faults.specs.Checks.{event_fault_from}
use Rattle.scenario_faults.specs.Labels.{HasLabels}
use Rattle.scenario_faults.proofs.LabelLemmas.{past}
use Rattle.scenario_faults.proofs.events.each_fits.Given as goal

-- the loads so far, and the events that are left
abbrev pub invariant-loop-i : goal.invariant-loop-i
invariant-loop-i l = record {
  labels : HasLabels l.earlier.keys (past (take l.i l.events));
  left : event_fault_from l.events (past (take l.i l.events)) l.i (drop l.i l.events) ≡ event_fault_from l.events [] 0 l.events;
}
