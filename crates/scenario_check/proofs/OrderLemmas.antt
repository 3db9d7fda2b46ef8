-- The fault of a child that precedes itself, and the plan without one.
use Rattle.std.proofs.Common.{◌≡◌, ℕ, ◌<◌, List, [], ◌∷◌, length, map, ◌^◌, Option, None, Some, Result, Ok, Err, sym, ap, ◌∙◌, arith}
use Rattle.std.specs.Option.{option_map, option_map_or}
use Rattle.std.proofs.lemmas.List.{length-append, length-map}
use Rattle.scenario_record.specs.declared.fault.Cause.TheVariants.{Cycle}
use Rattle.scenario_record.specs.declared.fault.ScenarioFault.{ScenarioFault}
use Rattle.scenario_record.specs.declared.fault.ScenarioFault.TheVariants.{Bad, Memory}
use Rattle.scenario_record.specs.declared.plan.Plan.{Plan}
use Rattle.scenario_record.specs.declared.record.Scenario.{Scenario}
use Rattle.scenario_record.specs.Faults.{bad, IsMoved}
use Rattle.scenario_record.specs.Readings.{unless, IsDue}
use Rattle.scenario_faults.specs.Checks.{names_fault, parents_fault, siblings_fault, spawns_fault, lookups_fault, events_fault, first_fault}
use Rattle.scenario_faults.proofs.FaultLemmas.{neither_of}
use Rattle.system_order.specs.Order.{first_cycle, order_of}
use Rattle.run_model.specs.Steps.{group_child, system_child, children_of}
use Rattle.scenario_check.specs.Read.{IsRead}
use Rattle.scenario_check.specs.Planned.{at_child, cycle_fault, plan_of, ordered}

-- there are few children
pub few_children : (s : Scenario) → IsRead s → length (children_of s) < 2 ^ 32
unfolding children_of
few_children s read =
    let all = length-append (map (group_child s) s.group) (map (system_child s) s.system) in
    let groups = length-map s.group (group_child s) in
    let systems = length-map s.system (system_child s) in
    omega (arith, all, groups, systems, read.groups, read.systems)

found : (o : Option ℕ) (systems : List ℕ) (child : ℕ) → option_map_or (λ c. (let r : Result (List ℕ) ℕ = Err c in r)) o (Ok systems) ≡ Err child → o ≡ Some child
found None systems child is = absurd cc
found (Some c) systems child is = cc

pub cycle_due : (s : Scenario) (child : ℕ) (r : ScenarioFault) → order_of (children_of s) ≡ Err child → IsMoved (at_child s child) (Bad (bad Cycle)) r → IsDue (ordered s) r
unfolding order_of cycle_fault
cycle_due s child (Bad b) is moved =
    ap (λ (o : Option ℕ). unless (option_map (λ c. at_child s c (bad Cycle)) o) (Ok (plan_of s))) (found (first_cycle (children_of s)) _ child is)
    ∙ ap Err (sym moved)
cycle_due s child Memory is moved = tt

pub plan_due : (s : Scenario) (plan : Plan) → first_cycle (children_of s) ≡ None → plan ≡ plan_of s → ordered s ≡ Ok plan
unfolding cycle_fault
plan_due s plan none is =
    ap (λ (o : Option ℕ). unless (option_map (λ c. at_child s c (bad Cycle)) o) (Ok (plan_of s))) none ∙ ap Ok (sym is)

pub no_names_fault : (s : Scenario) → first_fault s ≡ None → names_fault s ≡ None
no_names_fault s none = (neither_of (names_fault s) (parents_fault s ∷ siblings_fault s ∷ spawns_fault s ∷ lookups_fault s ∷ events_fault s ∷ []) none).0
