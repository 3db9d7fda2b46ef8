-- The table of an event: `frame`, and one of `do`, `load` with `as` and `delay`, and `unload`.
use Rattle.std.specs.Prelude.{ℕ, not, ◌&&◌, nat_le, List, [], ◌∷◌, length, codes, Option, None, Some, Ok, Err}
use Rattle.std.specs.Option.{unwrap_or}
use Rattle.toml.specs.Data.{Data, Members}
use Rattle.ent_types.specs.declared.limits.TheConstants.{MOST_FRAMES, LONGEST_FILE_NAME}
use Rattle.ent_types.specs.declared.type_info.TypeInfo.{TypeInfo}
use Rattle.expr_trees.specs.declared.tree.CommandText.{CommandText}
use Rattle.scenario_record.specs.declared.fault.Cause.TheVariants.{Missing, BadName, BadShape}
use Rattle.scenario_record.specs.declared.fault.BadScenario.{BadScenario}
use Rattle.scenario_record.specs.declared.record.EventEntry.{EventEntry}
use Rattle.scenario_record.specs.declared.record.EventAct.{EventAct}
use Rattle.scenario_record.specs.declared.record.EventAct.TheVariants.{Operate, Load, Unload}
use Rattle.scenario_record.specs.Faults.{bad, below_key}
use Rattle.scenario_record.specs.Readings.{Reading, ◌>>=◌, unless, fault_if}
use Rattle.scenario_tables.specs.declared.events.SceneKeys.{SceneKeys}
use Rattle.scenario_tables.specs.ReadKeys.{known_table, required, perhaps, number, text, name}
use Rattle.scenario_tables.specs.ReadTexts.{event_command}

-- a file name, which isn't empty
abbrev pub file_name : Data → Reading (List ℕ)
file_name d =
    text d >>= λ s.
    unless (fault_if (not (nat_le 1 (length s) && nat_le (length s) LONGEST_FILE_NAME)) BadName) (Ok s)

-- the keys of an event that loads or unloads a scene
abbrev pub scene_keys : Members → Reading SceneKeys
scene_keys ms =
    perhaps (codes "load") file_name ms >>= λ load.
    perhaps (codes "as") name ms >>= λ label.
    perhaps (codes "delay") (number 0 MOST_FRAMES) ms >>= λ delay.
    perhaps (codes "unload") name ms >>= λ unload.
    Ok (record { load = load; label = label; delay = delay; unload = unload })

-- What the event does, if it has exactly one of the three keys. `as` and `delay` are allowed only with `load`, which
-- requires `as`; `delay` is 1 by default.
abbrev pub load_act : List ℕ → Option (List ℕ) → Option ℕ → Reading EventAct
load_act file None delay = Err (below_key (codes "as") (bad Missing))
load_act file (Some label) delay = Ok (Load file label (unwrap_or delay 1))

-- the fault of an act that has `as` or `delay`
abbrev pub lone_fault : Option (List ℕ) → Option ℕ → Option BadScenario
lone_fault None None = None
lone_fault label delay = Some (bad BadShape)

abbrev pub lone_act : Option (List ℕ) → Option ℕ → EventAct → Reading EventAct
lone_act label delay act = unless (lone_fault label delay) (Ok act)

-- the fault of an event with `do` that has another key of an act
abbrev pub operation_fault : Option (List ℕ) → Option (List ℕ) → Option (List ℕ) → Option ℕ → Option BadScenario
operation_fault None None label delay = lone_fault label delay
operation_fault load unload label delay = Some (bad BadShape)

abbrev pub act_by : Option CommandText → Option (List ℕ) → Option (List ℕ) → Option (List ℕ) → Option ℕ → Reading EventAct
act_by (Some operation) load unload label delay = unless (operation_fault load unload label delay) (Ok (Operate operation))
act_by None (Some file) None label delay = load_act file label delay
act_by None None (Some load) label delay = lone_act label delay (Unload load)
act_by None load unload label delay = Err (bad BadShape)

abbrev pub act_of : Option CommandText → SceneKeys → Reading EventAct
act_of operation keys = act_by operation keys.load keys.unload keys.label keys.delay

-- the event in this frame, with these keys of its act
abbrev pub event_with : ℕ → Option CommandText → SceneKeys → Reading EventEntry
event_with frame operation keys =
    act_of operation keys >>= λ act.
    Ok (record { frame = frame; act = act })

abbrev pub event_keys : List TypeInfo → Members → Reading EventEntry
event_keys registry ms =
    required (codes "frame") (number 1 MOST_FRAMES) ms >>= λ frame.
    perhaps (codes "do") (event_command registry) ms >>= λ operation.
    scene_keys ms >>= λ keys.
    event_with frame operation keys

unfoldable pub event : List TypeInfo → Data → Reading EventEntry
event registry d =
    known_table (codes "frame" ∷ codes "do" ∷ codes "load" ∷ codes "as" ∷ codes "delay" ∷ codes "unload" ∷ []) d >>= λ ms.
    event_keys registry ms
