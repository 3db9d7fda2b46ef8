-- Scenarios with a cycle: which group or system the fault names.
use Rattle.std.proofs.Common.{◌≡◌, ℕ, List, [], ◌∷◌, ◌++◌, false, None, Err, refl}
use Rattle.std.specs.Prelude.{codes}
use Rattle.std.specs.Fmt.{decimal}
use Rattle.scenario_record.specs.declared.fault.BadScenario.{BadScenario}
use Rattle.scenario_record.specs.declared.fault.Cause.TheVariants.{Cycle}
use Rattle.scenario_record.specs.declared.record.GroupEntry.{GroupEntry}
use Rattle.scenario_record.specs.declared.record.Scenario.{Scenario}
use Rattle.scenario_record.specs.declared.record.SystemEntry.{SystemEntry}
use Rattle.scenario_record.specs.Readings.{whole_path}
use Rattle.system_order.specs.Chain.{chained, earliest_on_cycle}
use Rattle.system_order.specs.Child.{members, precedes}
use Rattle.run_model.specs.Steps.{group_number, children_of}
use Rattle.scenario_check.specs.Planned.{cycle_fault, ordered}

abbrev scenario : List GroupEntry → List SystemEntry → Scenario
scenario groups systems = record {
  frames = 1;
  first_system_version = 1;
  first_entity_version = 1;
  registry = [];
  spawn = [];
  group = groups;
  system = systems;
  event = [];
  placed = false;
  unbuilt = false;
}

abbrev group : List ℕ → List (List ℕ) → GroupEntry
group name before = record { name = name; parent = codes "Simulation"; before = before; after = []; first = false; last = false }

abbrev system : List ℕ → List ℕ → List (List ℕ) → SystemEntry
system name group after = record {
  name = name;
  group = group;
  before = [];
  after = after;
  first = false;
  last = false;
  every = 1;
  all = [];
  any = [];
  none = [];
  disabled = [];
  absent = [];
  include_disabled = false;
  include_prefab = false;
  changed = [];
  order_changed = false;
  shared = [];
  set = [];
  enable = [];
  command = [];
}

-- the cycle at a place of a list
abbrev at : ℕ → List ℕ → BadScenario
at place list = record { cause = Cycle; key = list ++ (codes "[" ++ (decimal place ++ codes "]")); at = None }

-- two systems that come after each other: the first one is named
first_system_of_a_cycle : whole_path (ordered (scenario [] (
    system (codes "B") (codes "Simulation") (codes "A" ∷ []) ∷ system (codes "A") (codes "Simulation") (codes "B" ∷ []) ∷ [])))
    ≡ Err (at 0 (codes "system"))
unfolding cycle_fault children_of group_number members precedes earliest_on_cycle chained
first_system_of_a_cycle = refl

-- a system that isn't on the cycle is passed over, though it comes after one that is
system_on_the_cycle : whole_path (ordered (scenario [] (
    system (codes "C") (codes "Simulation") (codes "A" ∷ []) ∷ system (codes "B") (codes "Simulation") (codes "A" ∷ []) ∷ system (codes "A") (codes "Simulation") (codes "B" ∷ []) ∷ [])))
    ≡ Err (at 1 (codes "system"))
unfolding cycle_fault children_of group_number members precedes earliest_on_cycle chained
system_on_the_cycle = refl

-- the cycle of a root comes before that of a group in it
group_of_a_cycle : whole_path (ordered (scenario (group (codes "G") [] ∷ group (codes "H") (codes "I" ∷ []) ∷ group (codes "I") (codes "H" ∷ []) ∷ []) (
    system (codes "B") (codes "G") (codes "A" ∷ []) ∷ system (codes "A") (codes "G") (codes "B" ∷ []) ∷ [])))
    ≡ Err (at 1 (codes "group"))
unfolding cycle_fault children_of group_number members precedes earliest_on_cycle chained
group_of_a_cycle = refl
