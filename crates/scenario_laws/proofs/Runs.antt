-- A scenario that is read and passes its checks can be run.
use Rattle.std.proofs.Common.{ℕ, ◌≡◌, ◌≤◌, ◌+◌, List, [], ◌∷◌, Bool, true, false, cond, None, Some, Ok, refl, arith}
use Rattle.std.specs.Prelude.{nat_lt, codes}
use Rattle.std.specs.List.{sum_by}
use Rattle.std.proofs.lemmas.Bool.{ltb-false}
use Rattle.std.proofs.lemmas.List.Sums.{sum_by-cons}
use Rattle.scenario_record.specs.declared.fault.Cause.TheVariants.{TooManyEntities}
use Rattle.scenario_record.specs.declared.plan.Plan.{Plan}
use Rattle.scenario_record.specs.declared.record.Scenario.{Scenario}
use Rattle.scenario_record.specs.declared.record.SpawnEntry.{SpawnEntry}
use Rattle.scenario_record.specs.Faults.{bad}
use Rattle.scenario_record.specs.Lawful.{IsLawfulScenario, IsLawfulSpawn, IsLawfulSystem, IsLawfulEvent}
use Rattle.scenario_read.specs.ReadScenario.{scenario_of}
use Rattle.scenario_faults.specs.Checks.{at_element, crowded_from, first_fault}
use Rattle.scenario_check.specs.Planned.{checked}
use Rattle.read_laws.proofs.Scenarios.{is_lawful_scenario}
use Rattle.run_laws.specs.Runnable.{IsRunnable}
use Rattle.scenario_laws.proofs.Faults.{no_fault, no_spawn_fault, not_crowded, no_lookup_fault}
use Rattle.scenario_laws.proofs.Members.{of_all}
use Rattle.scenario_laws.proofs.SpawnsRun.{spawn_runs, act_runs}
use Rattle.scenario_laws.proofs.SystemsRun.{system_runs}

-- ---- the rows of all spawns

few_rows : (made i : ℕ) (ps : List SpawnEntry) → made ≤ 1048576 → crowded_from made i ps ≡ None → made + sum_by (λ p. p.count) ps ≤ 1048576
few_rows made i [] few is = omega arith
few_rows made i (p ∷ ps) few is = by (nat_lt 1048576 (made + p.count)) refl is (λ fits rest. few_rows (made + p.count) (i + 1) ps fits rest)
  where
    by : (b : Bool) → nat_lt 1048576 (made + p.count) ≡ b
        → cond b (Some (at_element (codes "spawn") i (bad TooManyEntities))) (crowded_from (made + p.count) (i + 1) ps) ≡ None
        → (made + p.count ≤ 1048576 → crowded_from (made + p.count) (i + 1) ps ≡ None → made + p.count + sum_by (λ q. q.count) ps ≤ 1048576)
        → made + sum_by (λ q. q.count) (p ∷ ps) ≤ 1048576
    by true _ crowded later = absurd cc
    by false test rest later =
        let all = later (ltb-false 1048576 (made + p.count) test) rest in
        omega (arith, all, sum_by-cons (λ (q : SpawnEntry). q.count) p ps)

-- ---- the whole

runnable : (s : Scenario) → IsLawfulScenario s → first_fault s ≡ None → IsRunnable s
runnable s lawful clear = record {
  frames = lawful.frames;
  first_system_version = lawful.first_system_version;
  first_entity_version = lawful.first_entity_version;
  registry = lawful.registry;
  few_spawns = lawful.spawn_few;
  spawns = λ p here. spawn_runs s.registry p (of_all (IsLawfulSpawn s.registry) p s.spawn lawful.spawn here) (no_spawn_fault s clear p here);
  entities = (let rows = few_rows 0 0 s.spawn (omega arith) (not_crowded s clear) in omega (arith, rows));
  few_systems = lawful.system_few;
  systems = λ y here. system_runs s.registry lawful.registry.most y (of_all (IsLawfulSystem s.registry) y s.system lawful.system here) (no_lookup_fault s clear y here);
  few_events = lawful.event_few;
  events = λ e here. act_runs s.registry e.act (of_all (IsLawfulEvent s.registry) e s.event lawful.event here).act;
}

pub is_runnable : (bytes : List ℕ) (s : Scenario) (p : Plan) → scenario_of bytes ≡ Ok s → checked s ≡ Ok p → IsRunnable s
is_runnable bytes s p read passes = runnable s (is_lawful_scenario bytes s read) (no_fault s p passes)
