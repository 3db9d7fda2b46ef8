-- What passes its checks has none of the faults.
use Rattle.std.proofs.Common.{ℕ, ◌≡◌, ◌+◌, List, [], ◌∷◌, Bool, true, false, Option, None, Some, Ok, inl, inr, refl, ap, ◌∙◌}
use Rattle.std.specs.Prelude.{codes}
use Rattle.std.specs.Option.{option_map}
use Rattle.scenario_record.specs.declared.fault.Cause.{Cause}
use Rattle.scenario_record.specs.declared.fault.BadScenario.{BadScenario}
use Rattle.scenario_record.specs.declared.plan.Plan.{Plan}
use Rattle.scenario_record.specs.declared.record.Scenario.{Scenario}
use Rattle.scenario_record.specs.declared.record.SpawnEntry.{SpawnEntry}
use Rattle.scenario_record.specs.declared.record.SystemEntry.{SystemEntry}
use Rattle.scenario_record.specs.Readings.{Reading, unless, fault_if}
use Rattle.scenario_faults.specs.Checks.{at_element, names_fault, parents_fault, siblings_fault, each_fault_from, spawn_fault, crowded_from, spawns_fault, lookup_fault, lookups_fault, events_fault, first_fault}
use Rattle.scenario_faults.proofs.FaultLemmas.{neither_of}
use Rattle.scenario_check.specs.Planned.{planned, checked}
use Rattle.read_laws.proofs.Inversions.{whole_ok}
use Rattle.world_model.specs.Members.{In}

pub passed_ok : (first : Option BadScenario) (plan : Reading Plan) (p : Plan) → unless first plan ≡ Ok p → first ≡ None
passed_ok None plan p is = refl
passed_ok (Some f) plan p is = absurd cc

pub no_fault : (s : Scenario) (p : Plan) → checked s ≡ Ok p → first_fault s ≡ None
unfolding checked
no_fault s p is = passed_ok (first_fault s) (planned s) p (whole_ok (unless (first_fault s) (planned s)) p is)

-- ---- one test after another

none_mapped : (step : BadScenario → BadScenario) (fault : Option BadScenario) → option_map step fault ≡ None → fault ≡ None
none_mapped step None is = refl
none_mapped step (Some f) is = absurd cc

pub not_faulty : (b : Bool) (cause : Cause) → fault_if b cause ≡ None → b ≡ false
not_faulty true cause is = absurd cc
not_faulty false cause is = refl

none_of_each : {A : Type 0} (key : List ℕ) (test : A → Option BadScenario) (i : ℕ) (x : A) (xs : List A) → each_fault_from key test i xs ≡ None → In x xs → test x ≡ None
none_of_each key test i x [] is here = absurd here
none_of_each key test i x (y ∷ ys) is (inl e) =
    ap test e
    ∙ none_mapped (at_element key i) (test y) (neither_of (option_map (at_element key i) (test y)) (each_fault_from key test (i + 1) ys ∷ []) is).0
none_of_each key test i x (y ∷ ys) is (inr here) =
    let later = neither_of (option_map (at_element key i) (test y)) (each_fault_from key test (i + 1) ys ∷ []) is in
    none_of_each key test (i + 1) x ys (neither_of (each_fault_from key test (i + 1) ys) [] later.1).0 here

-- ---- the tests of a scenario

record HasNoFaults (s : Scenario) : Type 0 where
  pub spawns : spawns_fault s ≡ None
  pub lookups : lookups_fault s ≡ None

no_faults : (s : Scenario) → first_fault s ≡ None → HasNoFaults s
no_faults s is =
    let after_lookups = events_fault s ∷ [] in
    let after_spawns = lookups_fault s ∷ after_lookups in
    let after_siblings = spawns_fault s ∷ after_spawns in
    let after_parents = siblings_fault s ∷ after_siblings in
    let names = neither_of (names_fault s) (parents_fault s ∷ after_parents) is in
    let parents = neither_of (parents_fault s) after_parents names.1 in
    let siblings = neither_of (siblings_fault s) after_siblings parents.1 in
    let spawns = neither_of (spawns_fault s) after_spawns siblings.1 in
    let lookups = neither_of (lookups_fault s) after_lookups spawns.1 in
    record { spawns = spawns.0; lookups = lookups.0 }

pub no_spawn_fault : (s : Scenario) → first_fault s ≡ None → (p : SpawnEntry) → In p s.spawn → spawn_fault s.registry p ≡ None
unfolding spawns_fault
no_spawn_fault s is p here =
    let each = neither_of (each_fault_from (codes "spawn") (spawn_fault s.registry) 0 s.spawn) (crowded_from 0 0 s.spawn ∷ []) (no_faults s is).spawns in
    none_of_each (codes "spawn") (spawn_fault s.registry) 0 p s.spawn each.0 here

pub not_crowded : (s : Scenario) → first_fault s ≡ None → crowded_from 0 0 s.spawn ≡ None
unfolding spawns_fault
not_crowded s is =
    let each = neither_of (each_fault_from (codes "spawn") (spawn_fault s.registry) 0 s.spawn) (crowded_from 0 0 s.spawn ∷ []) (no_faults s is).spawns in
    (neither_of (crowded_from 0 0 s.spawn) [] each.1).0

pub no_lookup_fault : (s : Scenario) → first_fault s ≡ None → (y : SystemEntry) → In y s.system → lookup_fault y ≡ None
unfolding lookups_fault
no_lookup_fault s is y here = none_of_each (codes "system") lookup_fault 0 y s.system (no_faults s is).lookups here
