-- The names of loads, apart from the events that have them.
use Rattle.std.specs.Prelude.{ℕ, ◌≡◌, Bool, false, if◌then◌else◌, List, Option, None, Some, codes}
use Rattle.std.specs.List.{list_any}
use Rattle.std.specs.Option.{option_map_or}
use Rattle.ent_types.specs.Types.{same_name}
use Rattle.scenario_record.specs.declared.fault.Cause.TheVariants.{DuplicateName, UnknownName}
use Rattle.scenario_record.specs.declared.fault.BadScenario.{BadScenario}
use Rattle.scenario_record.specs.declared.record.EventEntry.{EventEntry}
use Rattle.scenario_record.specs.declared.record.EventAct.{EventAct}
use Rattle.scenario_record.specs.declared.record.EventAct.TheVariants.{Operate, Load, Unload}
use Rattle.scenario_record.specs.Faults.{bad, below_key}
use Rattle.scenario_faults.specs.Checks.{label_of, is_labelled}

-- the names are those of the loads among the events
abbrev pub HasLabels : List (List ℕ) → List EventEntry → Type 0
HasLabels names events = (n : List ℕ) → list_any (same_name n) names ≡ list_any (is_labelled n) events

-- whether the event is a load of this name
abbrev pub has_label : List ℕ → EventAct → Bool
has_label n act = option_map_or (same_name n) (label_of act) false

-- what is wrong with an event, by the names of all loads and of the earlier ones
abbrev pub fault_by : List (List ℕ) → List (List ℕ) → EventAct → Option BadScenario
fault_by all earlier (Operate c) = None
fault_by all earlier (Load file label delay) =
    if list_any (same_name label) earlier then Some (below_key (codes "as") (bad DuplicateName)) else None
fault_by all earlier (Unload n) =
    if list_any (same_name n) all then None else Some (below_key (codes "unload") (bad UnknownName))
