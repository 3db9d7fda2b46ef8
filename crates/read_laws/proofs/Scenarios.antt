-- Each scenario that is read is lawful.
use Rattle.std.proofs.Common.{ℕ, ◌≡◌, ◌≤◌, List, [], Bool, true, false, cond, Option, None, Some, Ok, length, refl, subst, arith}
use Rattle.std.specs.Prelude.{codes, All}
use Rattle.std.specs.Str.{is_utf8}
use Rattle.std.proofs.lemmas.List.Elements.{All-from_recursion}
use Rattle.toml.specs.Data.{Members, members_are_sorted}
use Rattle.toml.specs.Parse.{parse_document}
use Rattle.ent_types.specs.declared.limits.TheConstants.{MOST_FRAMES, MOST_SPAWNS, MOST_GROUPS, MOST_SYSTEMS, MOST_EVENTS}
use Rattle.ent_types.specs.declared.type_info.TypeInfo.{TypeInfo}
use Rattle.ent_types.specs.Registries.{IsLawfulRegistry}
use Rattle.system_version.specs.Versions.{IsVersion}
use Rattle.scenario_record.specs.declared.record.Scenario.{Scenario}
use Rattle.scenario_record.specs.Lawful.{IsLawfulSpawn, IsLawfulGroup, IsLawfulSystem, IsLawfulEvent, IsLawfulScenario}
use Rattle.scenario_tables.specs.ReadKeys.{unknown_key, required, optional, number, each_up_to}
use Rattle.scenario_tables.specs.ReadSpawns.{spawn}
use Rattle.scenario_tables.specs.ReadGroups.{group}
use Rattle.scenario_tables.specs.ReadSystems.{system}
use Rattle.scenario_tables.specs.ReadEvents.{event}
use Rattle.scenario_tables.specs.ReadTop.{numbers, types, spawns, schedule, known_at_top, top_keys, top_table}
use Rattle.scenario_read.specs.ReadScenario.{read_document, scenario_of}
use Rattle.scenario_tables.specs.Parts.{Numbers, Schedule}
use Rattle.read_laws.proofs.Inversions.{then_ok, ok_same, unless_ok, whole_ok, number_ok, required_found, optional_ok, optional_each_ok, optional_up_to_ok}
use Rattle.read_laws.proofs.SortedTables.{document_sorted}
use Rattle.read_laws.proofs.Tables.{sorted_list_ok}
use Rattle.read_laws.proofs.Registries.{types_ok}
use Rattle.read_laws.proofs.Spawns.{spawn_ok}
use Rattle.read_laws.proofs.Placements.{group_ok}
use Rattle.read_laws.proofs.Systems.{system_ok}
use Rattle.read_laws.proofs.Events.{event_ok}

-- ---- the numbers

record AreLawfulNumbers (n : Numbers) : Type 0 where
  pub frames : n.frames ≤ MOST_FRAMES
  pub system : IsVersion n.first_system_version
  pub entity : IsVersion n.first_entity_version

version_ok : (key : List ℕ) (ms : Members) (v : ℕ) → optional key 1 (number 1 4294967295) ms ≡ Ok v → IsVersion v
version_ok key ms v is =
    optional_ok IsVersion key 1 (number 1 4294967295) ms v (record { from_one = omega arith; within = omega arith })
    (λ d got. let (low, high) = number_ok 1 4294967295 d v got in record { from_one = low; within = omega (arith, high) }) is

numbers_ok : (ms : Members) (n : Numbers) → numbers ms ≡ Ok n → AreLawfulNumbers n
numbers_ok ms n is =
    let f = then_ok _ (required (codes "frames") (number 0 MOST_FRAMES) ms) n is in
    let s = then_ok _ (optional (codes "first_system_version") 1 (number 1 4294967295) ms) n f.2 in
    let e = then_ok _ (optional (codes "first_entity_version") 1 (number 1 4294967295) ms) n s.2 in
    let found = required_found (codes "frames") (number 0 MOST_FRAMES) ms f.0 f.1 in
    subst AreLawfulNumbers (ok_same _ n e.2) (record {
      frames = (number_ok 0 MOST_FRAMES found.0 f.0 found.1).1;
      system = version_ok (codes "first_system_version") ms s.0 s.1;
      entity = version_ok (codes "first_entity_version") ms e.0 e.1;
    })

-- ---- the lists

module _ (registry : List TypeInfo) (lawful : IsLawfulRegistry registry) where
  record IsLawfulSchedule (s : Schedule) : Type 0 where
    pub group_few : length s.group ≤ MOST_GROUPS
    pub group : All IsLawfulGroup s.group
    pub system_few : length s.system ≤ MOST_SYSTEMS
    pub system : All (IsLawfulSystem registry) s.system
    pub event_few : length s.event ≤ MOST_EVENTS
    pub event : All (IsLawfulEvent registry) s.event

  schedule_ok : (ms : Members) (s : Schedule) → members_are_sorted ms ≡ true → schedule registry ms ≡ Ok s → IsLawfulSchedule s
  schedule_ok ms s sorted is =
      let g = then_ok _ (optional (codes "group") [] (each_up_to MOST_GROUPS group) ms) s is in
      let y = then_ok _ (optional (codes "system") [] (each_up_to MOST_SYSTEMS (system registry)) ms) s g.2 in
      let e = then_ok _ (optional (codes "event") [] (each_up_to MOST_EVENTS (event registry)) ms) s y.2 in
      subst IsLawfulSchedule (ok_same _ s e.2) (record {
        group_few = optional_up_to_ok (codes "group") MOST_GROUPS group ms g.0 g.1;
        group = All-from_recursion IsLawfulGroup g.0 (optional_each_ok IsLawfulGroup (codes "group") MOST_GROUPS group ms g.0 group_ok g.1);
        system_few = optional_up_to_ok (codes "system") MOST_SYSTEMS (system registry) ms y.0 y.1;
        system = All-from_recursion (IsLawfulSystem registry) y.0
            (sorted_list_ok (IsLawfulSystem registry) (codes "system") MOST_SYSTEMS (system registry) ms y.0 sorted (system_ok registry lawful) y.1);
        event_few = optional_up_to_ok (codes "event") MOST_EVENTS (event registry) ms e.0 e.1;
        event = All-from_recursion (IsLawfulEvent registry) e.0
            (optional_each_ok (IsLawfulEvent registry) (codes "event") MOST_EVENTS (event registry) ms e.0 (event_ok registry lawful) e.1);
      })

-- ---- the whole

keys_ok : (ms : Members) (s : Scenario) → members_are_sorted ms ≡ true → top_keys ms ≡ Ok s → IsLawfulScenario s
keys_ok ms s sorted is =
    let n = then_ok _ (numbers ms) s is in
    let r = then_ok _ (types ms) s n.2 in
    let p = then_ok _ (spawns r.0 ms) s r.2 in
    let t = then_ok _ (schedule r.0 ms) s p.2 in
    let known = numbers_ok ms n.0 n.1 in
    let registry = types_ok ms r.0 r.1 in
    let lists = schedule_ok r.0 registry.lawful ms t.0 sorted t.1 in
    subst IsLawfulScenario (ok_same _ s t.2) (record {
      frames = known.frames;
      first_system_version = known.system;
      first_entity_version = known.entity;
      registry = registry.lawful;
      spawn_few = optional_up_to_ok (codes "spawn") MOST_SPAWNS (spawn r.0) ms p.0 p.1;
      spawn = All-from_recursion (IsLawfulSpawn r.0) p.0
          (sorted_list_ok (IsLawfulSpawn r.0) (codes "spawn") MOST_SPAWNS (spawn r.0) ms p.0 sorted (spawn_ok r.0 registry.lawful registry.plain) p.1);
      group_few = lists.group_few;
      group = lists.group;
      system_few = lists.system_few;
      system = lists.system;
      event_few = lists.event_few;
      event = lists.event;
    })

top_ok : (ms : Members) (s : Scenario) → members_are_sorted ms ≡ true → top_table ms ≡ Ok s → IsLawfulScenario s
unfolding top_table
top_ok ms s sorted is = keys_ok ms s sorted (unless_ok (unknown_key known_at_top ms) (top_keys ms) s is)

pub is_lawful_scenario : (bytes : List ℕ) (s : Scenario) → scenario_of bytes ≡ Ok s → IsLawfulScenario s
unfolding scenario_of
is_lawful_scenario bytes s is = utf8 (is_utf8 bytes) is
  where
    parsed : (found : Option Members) → parse_document bytes ≡ found → read_document found ≡ Ok s → IsLawfulScenario s
    parsed None at got = absurd cc
    parsed (Some ms) at got = top_ok ms s (document_sorted bytes ms at) (whole_ok (top_table ms) s got)

    utf8 : (b : Bool) → read_document (cond b (parse_document bytes) None) ≡ Ok s → IsLawfulScenario s
    utf8 true got = parsed (parse_document bytes) refl got
    utf8 false got = absurd cc
