-- The lines of a run: the world at its end, the notes, and the traces. A line ends with one line feed.
use Rattle.std.specs.Prelude.{ℕ, ℤ, zero, suc, ◌/◌, Bool, false, ◌&&◌, if◌then◌else◌, nat_eq, List, [], ◌∷◌, ◌++◌, codes, length, take, drop, option_map, unwrap_or}
use Rattle.std.specs.List.{flat_map, join_by}
use Rattle.std.specs.Fmt.{decimal, signed_decimal}
use Rattle.ent_types.specs.declared.entity.Entity.{Entity}
use Rattle.ent_types.specs.declared.point.Point.{Point}
use Rattle.ent_types.specs.declared.skip.Skip.{Skip}
use Rattle.ent_types.specs.declared.type_info.TypeInfo.{TypeInfo}
use Rattle.ent_types.specs.declared.value.Value.{Value}
use Rattle.ent_types.specs.declared.value.Value.TheVariants.{Int, Ref}
use Rattle.ent_types.specs.Registries.{type_at}
use Rattle.ent_types.specs.Skips.{skip_name}
use Rattle.ent_types.specs.TypeLookups.{fields_at, is_buffer_at}
use Rattle.world_model.specs.Row.{Row}
use Rattle.world_model.specs.World.{World}
use Rattle.world_model.specs.Found.{Found, alive_count, cell_at, found_by_index, values_of}
use Rattle.run_model.specs.declared.lines.NoteLine.{NoteLine}
use Rattle.run_model.specs.declared.lines.NoteLine.TheVariants.{EventSkip, SceneArrived, SceneFaulty, SceneAbsent, SceneTooLong, SceneFull, Unloaded, UnloadCancelled, UnloadNone, CommandSkip, Unplayed, ScenePending, KeyShared}
use Rattle.run_model.specs.declared.lines.TraceLine.{TraceLine}
use Rattle.run_model.specs.declared.lines.TraceLine.TheVariants.{Run, Play}
use Rattle.run_model.specs.declared.scene_fault.SceneFault.{SceneFault}
use Rattle.run_model.specs.Frames.{Line, Noted, Traced}
use Rattle.world_text.specs.Words.{point_name, scene_cause_name}

-- ---- keys

-- a key, and a word after it
unfoldable pub word_text : List ℕ → List ℕ → List ℕ
word_text key word = key ++ word

-- a key, and a number after it
abbrev pub count_text : List ℕ → ℕ → List ℕ
count_text key n = word_text key (decimal n)

-- ---- values

-- `index:version`
unfoldable pub entity_text : Entity → List ℕ
entity_text e = decimal e.index ++ (codes ":" ++ decimal e.version)

-- a number; `index:version`, or `null` for the null entity
unfoldable pub value_text : Value → List ℕ
value_text (Int z) = signed_decimal z
value_text (Ref e) = if nat_eq e.index 0 && nat_eq e.version 0 then codes "null" else entity_text e

-- the values joined by commas in parentheses; nothing where there are none
unfoldable pub values_text : List Value → List ℕ
values_text [] = []
values_text (v ∷ vs) = codes "(" ++ (join_by value_text (codes ",") (v ∷ vs) ++ codes ")")

-- the first n elements of a buffer whose values come one after another, of this many values each
abbrev pub elements_of : ℕ → ℕ → List Value → List (List Value)
elements_of width zero values = []
elements_of width (suc n) values = take width values ∷ elements_of width n (drop width values)

-- the elements joined by commas in brackets, each as its values
unfoldable pub elements_text : ℕ → List Value → List ℕ
elements_text width values = codes "[" ++ (join_by values_text (codes ",") (elements_of width (length values / width) values) ++ codes "]")

-- ---- the world

-- the values of a type, as its kind has them
abbrev pub contents_text : List TypeInfo → ℕ → List Value → List ℕ
contents_text registry t values =
    if is_buffer_at registry t then elements_text (length (fields_at registry t)) values else values_text values

-- a space, `!` where the type is disabled, its name, and its values
unfoldable pub part_text : List TypeInfo → ℕ → Bool → List Value → List ℕ
part_text registry t off values =
    codes " " ++ ((if off then codes "!" else []) ++ ((type_at registry t).name ++ contents_text registry t values))

-- whether a type is disabled in a row; a shared type never is
abbrev pub is_disabled_in : Row → ℕ → Bool
is_disabled_in row t = unwrap_or (option_map (λ c. c.off) (cell_at t row.cells)) false

-- what a row has of a type, its own or its block's
abbrev pub type_text : List TypeInfo → Found → ℕ → List ℕ
type_text registry x t = part_text registry t (is_disabled_in x.row t) (unwrap_or (values_of t x) [])

-- the line of a row: its entity, what it has of each of its types, by rising type, and ` dying` where it is dying
unfoldable pub row_line : List TypeInfo → Found → List ℕ
row_line registry x =
    entity_text x.row.entity
    ++ (flat_map (type_text registry x) x.home.types ++ ((if x.row.dying then codes " dying" else []) ++ codes "\n"))

-- the line before the rows
unfoldable pub world_line : ℕ → ℕ → List ℕ
world_line frames entities = count_text (codes "world frames=") frames ++ (count_text (codes " entities=") entities ++ codes "\n")

-- the lines of a world after some frames: the number of its rows, and each of them by index
unfoldable pub world_text : ℕ → World → List ℕ
world_text frames w = world_line frames (alive_count w) ++ flat_map (row_line w.registry) (found_by_index w)

-- ---- notes

-- how most lines begin: a word, and the frame
unfoldable pub frame_text : List ℕ → ℕ → List ℕ
frame_text word frame = word ++ count_text (codes " frame=") frame

-- why an operation was skipped, at the end of a line
unfoldable pub skip_text : Skip → List ℕ
skip_text skip = word_text (codes " skip=") (skip_name skip) ++ codes "\n"

unfoldable pub event_skip_line : ℕ → ℕ → Skip → List ℕ
event_skip_line frame event skip = frame_text (codes "note") frame ++ (count_text (codes " event=") event ++ skip_text skip)

-- how the line of a load begins: a word, the load's name, and the frame
unfoldable pub load_text : List ℕ → List ℕ → ℕ → List ℕ
load_text word name frame = word_text word name ++ count_text (codes " frame=") frame

-- the line of a load, with what came of it
unfoldable pub load_line : List ℕ → List ℕ → ℕ → List ℕ → List ℕ
load_line word name frame outcome = load_text word name frame ++ (outcome ++ codes "\n")

unfoldable pub fault_text : SceneFault → List ℕ
fault_text fault = word_text (codes " refused cause=") (scene_cause_name fault.cause) ++ count_text (codes " byte=") fault.byte

unfoldable pub pending_line : List ℕ → List ℕ
pending_line name = word_text (codes "scene ") name ++ codes " pending\n"

-- how the line of a command buffer begins: a word, the frame, the system that recorded it, and the point that plays it
unfoldable pub buffer_text : List ℕ → ℕ → List ℕ → Point → List ℕ
buffer_text word frame system point = frame_text word frame ++ (word_text (codes " system=") system ++ word_text (codes " point=") (point_name point))

-- where a command was recorded
unfoldable pub command_text : ℕ → ℕ → ℕ → List ℕ
command_text item row command = count_text (codes " item=") item ++ (count_text (codes " row=") row ++ count_text (codes " command=") command)

unfoldable pub command_skip_line : ℕ → List ℕ → Point → ℕ → ℕ → ℕ → Skip → List ℕ
command_skip_line frame system point item row command skip = buffer_text (codes "note") frame system point ++ (command_text item row command ++ skip_text skip)

unfoldable pub unplayed_line : ℕ → List ℕ → Point → ℕ → List ℕ
unplayed_line frame system point commands = buffer_text (codes "unplayed") frame system point ++ (count_text (codes " commands=") commands ++ codes "\n")

unfoldable pub key_shared_line : ℕ → List ℕ → Point → ℤ → ℕ → ℕ → List ℕ
key_shared_line frame system point key first_item second_item =
    buffer_text (codes "error keyshared") frame system point
    ++ (word_text (codes " key=") (signed_decimal key) ++ (count_text (codes " items=") first_item ++ (count_text (codes ",") second_item ++ codes "\n")))

unfoldable pub note_text : NoteLine → List ℕ
note_text (EventSkip frame event skip) = event_skip_line frame event skip
note_text (SceneArrived name frame entities) = load_line (codes "scene ") name frame (count_text (codes " entities=") entities)
note_text (SceneFaulty name frame fault) = load_line (codes "scene ") name frame (fault_text fault)
note_text (SceneAbsent name frame) = load_line (codes "scene ") name frame (codes " refused cause=absent")
note_text (SceneTooLong name frame) = load_line (codes "scene ") name frame (codes " refused cause=toolong")
note_text (SceneFull name frame) = load_line (codes "scene ") name frame (codes " refused cause=full")
note_text (Unloaded name frame entities) = load_line (codes "unload ") name frame (count_text (codes " entities=") entities)
note_text (UnloadCancelled name frame) = load_line (codes "unload ") name frame (codes " cancelled")
note_text (UnloadNone name frame) = load_line (codes "unload ") name frame (codes " none")
note_text (CommandSkip frame system point item row command skip) = command_skip_line frame system point item row command skip
note_text (Unplayed frame system point commands) = unplayed_line frame system point commands
note_text (ScenePending name) = pending_line name
note_text (KeyShared frame system point key first_item second_item) = key_shared_line frame system point key first_item second_item

-- ---- traces

unfoldable pub run_line : ℕ → List ℕ → ℕ → ℕ → ℕ → ℕ → List ℕ
run_line frame system version visits passing commands =
    frame_text (codes "run") frame ++ (word_text (codes " system=") system ++ (count_text (codes " version=") version
    ++ (count_text (codes " visits=") visits ++ (count_text (codes "/") passing ++ (count_text (codes " commands=") commands ++ codes "\n")))))

unfoldable pub play_line : ℕ → Point → ℕ → ℕ → ℕ → List ℕ
play_line frame point version buffers commands =
    frame_text (codes "play") frame ++ (word_text (codes " point=") (point_name point) ++ (count_text (codes " version=") version
    ++ (count_text (codes " buffers=") buffers ++ (count_text (codes " commands=") commands ++ codes "\n"))))

unfoldable pub trace_text : TraceLine → List ℕ
trace_text (Run frame system version visits passing commands) = run_line frame system version visits passing commands
trace_text (Play frame point version buffers commands) = play_line frame point version buffers commands

-- ---- all lines

abbrev pub line_text : Line → List ℕ
line_text (Noted line) = note_text line
line_text (Traced line) = trace_text line

abbrev pub lines_text : List Line → List ℕ
lines_text lines = flat_map line_text lines
