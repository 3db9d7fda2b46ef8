-- The names of the loads among events that a walk has come past.
use Rattle.std.proofs.Common.{ℕ, ◌≤◌, List, [], length, take, ap, ◌∙◌}
use Rattle.std.specs.List.{list_any}
use Rattle.std.proofs.lemmas.List.{take_all}
use Rattle.scenario_record.specs.declared.record.EventEntry.{EventEntry}
use Rattle.scenario_faults.specs.Checks.{is_labelled}
use Rattle.scenario_faults.specs.Labels.{HasLabels}
use Rattle.scenario_faults.proofs.Steps.{taken, taken_any}

-- the events that a walk has come past, the last one first
abbrev pub past : List EventEntry → List EventEntry
past events = taken (λ (e : EventEntry). e) [] events

-- the names of the loads among all events
pub labels_all : (events : List EventEntry) (i : ℕ) (keys : List (List ℕ)) → length events ≤ i → HasLabels keys (past (take i events)) → HasLabels keys events
labels_all events i keys end has n =
    has n ∙ taken_any (λ (e : EventEntry). e) (is_labelled n) [] (take i events) ∙ ap (list_any (is_labelled n)) (take_all i events end)
