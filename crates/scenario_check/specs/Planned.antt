-- The plan of a scenario that passes its checks, or its first fault.
use Rattle.std.specs.Prelude.{ℕ, ◌-◌, nat_lt, if◌then◌else◌, map, codes, Option, Ok, Err}
use Rattle.std.specs.Option.{option_map}
use Rattle.scenario_record.specs.declared.fault.BadScenario.{BadScenario}
use Rattle.scenario_record.specs.declared.fault.Cause.TheVariants.{Cycle, NotBuilt}
use Rattle.scenario_record.specs.declared.plan.Plan.{Plan}
use Rattle.scenario_record.specs.declared.record.Scenario.{Scenario}
use Rattle.scenario_record.specs.Faults.{bad}
use Rattle.scenario_record.specs.Readings.{Reading, unless, whole_path}
use Rattle.scenario_faults.specs.Touched.{access_of}
use Rattle.scenario_faults.specs.Checks.{at_element, first_fault}
use Rattle.system_order.specs.Order.{first_cycle}
use Rattle.run_model.specs.Steps.{children_of, first_system, steps_of}

-- the fault of a child of a group, by the child's number: the declared groups come after the three roots, then the systems
abbrev pub at_child : Scenario → ℕ → BadScenario → BadScenario
at_child s child f =
    if nat_lt child (first_system s)
    then at_element (codes "group") (child - 3) f
    else at_element (codes "system") (child - first_system s) f

-- a child precedes itself through a chain of its siblings
unfoldable pub cycle_fault : Scenario → Option BadScenario
cycle_fault s = option_map (λ child. at_child s child (bad Cycle)) (first_cycle (children_of s))

-- the steps of a frame, and what each system touches
abbrev pub plan_of : Scenario → Plan
plan_of s = record { steps = steps_of s; access = map (access_of s.registry) s.system }

abbrev pub ordered : Scenario → Reading Plan
ordered s = unless (cycle_fault s) (Ok (plan_of s))

-- keys that place groups and systems aren't planned yet
abbrev pub planned : Scenario → Reading Plan
planned s = if s.placed then Err (bad NotBuilt) else ordered s

unfoldable pub checked : Scenario → Reading Plan
checked s = whole_path (unless (first_fault s) (planned s))
