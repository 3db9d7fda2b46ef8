-- The table at the top of a scenario.
use Rattle.std.specs.Prelude.{ℕ, List, [], ◌∷◌, codes, Ok}
use Rattle.toml.specs.Data.{Members}
use Rattle.ent_types.specs.declared.limits.TheConstants.{LAST_ENTITY_VERSION, LAST_SYSTEM_VERSION, MOST_FRAMES, MOST_SPAWNS, MOST_GROUPS, MOST_SYSTEMS, MOST_EVENTS}
use Rattle.ent_types.specs.declared.type_info.TypeInfo.{TypeInfo}
use Rattle.ent_types.specs.Registries.{built_in_types}
use Rattle.scenario_record.specs.declared.record.Scenario.{Scenario}
use Rattle.scenario_record.specs.declared.record.SpawnEntry.{SpawnEntry}
use Rattle.scenario_record.specs.Readings.{Reading, ◌>>=◌, unless}
use Rattle.scenario_tables.specs.Parts.{Numbers, Schedule}
use Rattle.scenario_tables.specs.ReadKeys.{unknown_key, required, optional, number, each_up_to}
use Rattle.scenario_tables.specs.ReadTypes.{registry_of}
use Rattle.scenario_tables.specs.ReadSpawns.{spawn}
use Rattle.scenario_tables.specs.ReadGroups.{group}
use Rattle.scenario_tables.specs.ReadSystems.{system}
use Rattle.scenario_tables.specs.ReadEvents.{event}
use Rattle.scenario_tables.specs.ReadStages.{is_placed, is_unbuilt}

-- `frames`, `first_system_version`, `first_entity_version`
abbrev pub numbers : Members → Reading Numbers
numbers ms =
    required (codes "frames") (number 0 MOST_FRAMES) ms >>= λ f.
    optional (codes "first_system_version") 1 (number 1 LAST_SYSTEM_VERSION) ms >>= λ s.
    optional (codes "first_entity_version") 1 (number 1 LAST_ENTITY_VERSION) ms >>= λ e.
    Ok (record { frames = f; first_system_version = s; first_entity_version = e })

-- `type`
abbrev pub types : Members → Reading (List TypeInfo)
types ms = optional (codes "type") built_in_types registry_of ms

-- `spawn`
abbrev pub spawns : List TypeInfo → Members → Reading (List SpawnEntry)
spawns registry ms = optional (codes "spawn") [] (each_up_to MOST_SPAWNS (spawn registry)) ms

-- `group`, `system`, `event`
abbrev pub schedule : List TypeInfo → Members → Reading Schedule
schedule registry ms =
    optional (codes "group") [] (each_up_to MOST_GROUPS group) ms >>= λ group.
    optional (codes "system") [] (each_up_to MOST_SYSTEMS (system registry)) ms >>= λ system.
    optional (codes "event") [] (each_up_to MOST_EVENTS (event registry)) ms >>= λ event.
    Ok (record { group = group; system = system; event = event })

abbrev pub known_at_top : List (List ℕ)
known_at_top =
    codes "frames" ∷ codes "first_system_version" ∷ codes "first_entity_version" ∷ codes "type" ∷ codes "spawn" ∷
    codes "group" ∷ codes "system" ∷ codes "event" ∷ []

abbrev pub top_keys : Members → Reading Scenario
top_keys ms =
    numbers ms >>= λ n.
    types ms >>= λ registry.
    spawns registry ms >>= λ spawn.
    schedule registry ms >>= λ s.
    Ok (record {
      frames = n.frames;
      first_system_version = n.first_system_version;
      first_entity_version = n.first_entity_version;
      registry = registry;
      spawn = spawn;
      group = s.group;
      system = s.system;
      event = s.event;
      placed = is_placed ms;
      unbuilt = is_unbuilt ms;
    })

unfoldable pub top_table : Members → Reading Scenario
top_table ms = unless (unknown_key known_at_top ms) (top_keys ms)
