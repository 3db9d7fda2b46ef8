-- The table of a system: `name`, `group`, the keys that place it, `every`, the keys of its query, and its acts on each row.
use Rattle.std.specs.Prelude.{ℕ, ◌&&◌, List, [], ◌∷◌, codes, Ok}
use Rattle.toml.specs.Data.{Data, Members}
use Rattle.ent_types.specs.declared.limits.TheConstants.{MOST_FRAMES, MOST_ASSIGNS, MOST_SWITCHES}
use Rattle.ent_types.specs.declared.type_info.TypeInfo.{TypeInfo}
use Rattle.scenario_record.specs.declared.fault.Cause.TheVariants.{BadShape}
use Rattle.scenario_record.specs.declared.record.SystemEntry.{SystemEntry}
use Rattle.scenario_record.specs.Readings.{Reading, ◌>>=◌, unless, fault_if}
use Rattle.scenario_tables.specs.declared.systems.Acts.{Acts}
use Rattle.scenario_tables.specs.Parts.{Heading, Body}
use Rattle.scenario_tables.specs.ReadKeys.{known_table, required, optional, number, name, each_up_to}
use Rattle.scenario_tables.specs.ReadTexts.{system_assign, system_switch}
use Rattle.scenario_tables.specs.ReadGroups.{placement, group_named}
use Rattle.scenario_tables.specs.ReadCommands.{command_list}
use Rattle.scenario_tables.specs.ReadQueries.{clauses, bound_types, filters}

-- which system it is, and when it runs
abbrev pub heading : Members → Reading Heading
heading ms =
    required (codes "name") name ms >>= λ n.
    group_named (codes "group") ms >>= λ group.
    placement ms >>= λ p.
    optional (codes "every") 1 (number 1 MOST_FRAMES) ms >>= λ every.
    Ok (record { name = n; group = group; placement = p; every = every })

-- the acts on each row
abbrev pub acts : List TypeInfo → List ℕ → Members → Reading Acts
acts registry bound ms =
    optional (codes "set") [] (each_up_to MOST_ASSIGNS (system_assign registry bound)) ms >>= λ set.
    optional (codes "enable") [] (each_up_to MOST_SWITCHES (system_switch registry bound)) ms >>= λ enable.
    optional (codes "command") [] (command_list registry bound) ms >>= λ command.
    Ok (record { set = set; enable = enable; command = command })

-- the query and the acts
abbrev pub body : List TypeInfo → Members → Reading Body
body registry ms =
    clauses registry ms >>= λ c.
    filters registry c.all ms >>= λ f.
    acts registry (bound_types c) ms >>= λ a.
    Ok (record { clauses = c; filters = f; acts = a })

abbrev pub system_of : Heading → Body → SystemEntry
system_of h b = record {
  name = h.name;
  group = h.group;
  before = h.placement.before;
  after = h.placement.after;
  first = h.placement.first;
  last = h.placement.last;
  every = h.every;
  all = b.clauses.all;
  any = b.clauses.any;
  none = b.clauses.none;
  disabled = b.clauses.disabled;
  absent = b.clauses.absent;
  include_disabled = b.filters.include_disabled;
  include_prefab = b.filters.include_prefab;
  changed = b.filters.changed;
  order_changed = b.filters.order_changed;
  shared = b.filters.shared;
  set = b.acts.set;
  enable = b.acts.enable;
  command = b.acts.command;
}

-- a system can't be both first and last
abbrev pub placed : SystemEntry → Reading SystemEntry
placed s = unless (fault_if (s.first && s.last) BadShape) (Ok s)

abbrev pub known_in_a_system : List (List ℕ)
known_in_a_system =
    codes "name" ∷ codes "group" ∷ codes "before" ∷ codes "after" ∷ codes "first" ∷ codes "last" ∷ codes "every" ∷
    codes "all" ∷ codes "any" ∷ codes "none" ∷ codes "disabled" ∷ codes "absent" ∷ codes "include_disabled" ∷
    codes "include_prefab" ∷ codes "changed" ∷ codes "order_changed" ∷ codes "shared" ∷ codes "set" ∷ codes "enable" ∷
    codes "command" ∷ []

unfoldable pub system : List TypeInfo → Data → Reading SystemEntry
system registry d =
    known_table known_in_a_system d >>= λ ms.
    heading ms >>= λ h.
    body registry ms >>= λ b.
    placed (system_of h b)
