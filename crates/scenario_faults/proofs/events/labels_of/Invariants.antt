use Rattle.std.proofs.Common.{take}
use Rattle.scenario_faults.specs.Labels.{HasLabels}
use Rattle.scenario_faults.proofs.LabelLemmas.{past}
use Rattle.scenario_faults.proofs.events.labels_of.Given as goal

-- the loads so far
abbrev pub invariant-loop-event : goal.invariant-loop-event
invariant-loop-event l = HasLabels l.labels.keys (past (take l.event-index l.events))
