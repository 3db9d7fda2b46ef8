-- Scenes in a run: the request of a load, its arrival when it is due, and its unload.
use Rattle.std.specs.Prelude.{ℕ, ◌+◌, Bool, true, false, ◌&&◌, if◌then◌else◌, nat_eq, nat_le, List, [], ◌∷◌, ◌++◌, length, map, filter, fold, position, slice_get, slice_set, Option, Some, None}
use Rattle.std.specs.List.{list_any}
use Rattle.ent_types.specs.declared.entity.Entity.{Entity}
use Rattle.ent_types.specs.Types.{same_name}
use Rattle.world_model.specs.Part.{same_part}
use Rattle.world_model.specs.World.{Block, World}
use Rattle.world_model.specs.Found.{Found, placed, alive_count}
use Rattle.world_model.specs.Ids.{room}
use Rattle.world_model.specs.Operations.{On, Destroy, operate}
use Rattle.world_model.specs.Scenes.{Node, scene_tag, built, moved}
use Rattle.run_model.specs.declared.lines.NoteLine.{NoteLine}
use Rattle.run_model.specs.declared.lines.NoteLine.TheVariants.{SceneArrived, SceneFaulty, SceneAbsent, SceneTooLong, SceneFull, Unloaded as UnloadedLine, UnloadCancelled, UnloadNone, ScenePending}
use Rattle.run_model.specs.declared.scene_fault.SceneFault.{SceneFault}

-- what a scene file holds, where it is there: the nodes that it spells, or its first fault
pub data SceneFile : Type 0 where
  Absent : SceneFile
  TooLong : SceneFile
  Faulty : SceneFault → SceneFile
  Spelled : List Node → SceneFile

-- A load is requested, then arrived or refused. A load that is unloaded before it is due, or after it arrived, is over.
pub data LoadState : Type 0 where
  Requested : LoadState
  Arrived : LoadState
  Refused : LoadState
  Unloaded : LoadState

-- A load. The load at place k of the list has the number k + 1.
pub record Load : Type 0 where
  pub name : List ℕ
  -- the frame in which its scene is moved in
  pub due : ℕ
  -- the file as it was read at the request
  pub file : SceneFile
  pub state : LoadState

-- the loads of a run, the world, and the lines that were written
pub record SceneState : Type 0 where
  pub world : World
  pub loads : List Load
  pub lines : List NoteLine

abbrev pub is_requested : LoadState → Bool
is_requested Requested = true
is_requested Arrived = false
is_requested Refused = false
is_requested Unloaded = false

-- ---- arriving

-- the outcome of a load that is due: the world, the load's state, and its line
pub record Arrival : Type 0 where
  pub world : World
  pub state : LoadState
  pub line : NoteLine

abbrev pub refusal : World → NoteLine → Arrival
refusal w line = record { world = w; state = Refused; line = line }

-- a scene is moved in whole, or refused whole: where the world lacks the room it takes no id
abbrev pub scene_arrival : List ℕ → ℕ → World → World → Arrival
scene_arrival name frame w scene =
    if nat_le (alive_count scene) (room w)
    then record { world = moved w scene; state = Arrived; line = SceneArrived name frame (alive_count scene) }
    else refusal w (SceneFull name frame)

abbrev pub arrival_of : (List ℕ → ℕ) → ℕ → ℕ → List ℕ → World → SceneFile → Arrival
arrival_of capacity frame number name w Absent = refusal w (SceneAbsent name frame)
arrival_of capacity frame number name w TooLong = refusal w (SceneTooLong name frame)
arrival_of capacity frame number name w (Faulty fault) = refusal w (SceneFaulty name frame fault)
arrival_of capacity frame number name w (Spelled nodes) = scene_arrival name frame w (built capacity w.registry nodes number)

abbrev pub with_arrival : ℕ → Load → SceneState → Arrival → SceneState
with_arrival k load st a = record {
  world = a.world;
  loads = slice_set st.loads k (record load { state = a.state });
  lines = st.lines ++ a.line ∷ [];
}

abbrev pub arrived : (List ℕ → ℕ) → ℕ → SceneState → ℕ → Option Load → SceneState
arrived capacity frame st k None = st
arrived capacity frame st k (Some load) =
    with_arrival k load st (arrival_of capacity frame (k + 1) load.name st.world load.file)

-- the load at a place arrives
abbrev pub load_arrived : (List ℕ → ℕ) → ℕ → SceneState → ℕ → SceneState
load_arrived capacity frame st k = arrived capacity frame st k (slice_get st.loads k)

-- the places of the loads that are due in a frame, in order of request
abbrev pub due_from : ℕ → ℕ → List Load → List ℕ
due_from frame k [] = []
due_from frame k (l ∷ ls) =
    (if is_requested l.state && nat_le l.due frame then k ∷ [] else []) ++ due_from frame (k + 1) ls

abbrev pub due_arrived : (List ℕ → ℕ) → ℕ → SceneState → SceneState
due_arrived capacity frame st = fold (load_arrived capacity frame) st (due_from frame 0 st.loads)

-- ---- requesting

abbrev pub with_load : Load → SceneState → SceneState
with_load load st = record st { loads = st.loads ++ load ∷ [] }

-- A load is requested in a frame. With a delay of 0 it arrives at once.
abbrev pub requested : (List ℕ → ℕ) → ℕ → SceneFile → List ℕ → ℕ → SceneState → SceneState
requested capacity frame file name delay st =
    if nat_eq delay 0
    then load_arrived capacity frame (with_load (record { name = name; due = frame + delay; file = file; state = Requested }) st) (length st.loads)
    else with_load (record { name = name; due = frame + delay; file = file; state = Requested }) st

-- ---- unloading

-- the entities that came with the load of this number, block after block
abbrev pub is_tagged : ℕ → Found → Bool
is_tagged number x = list_any (same_part (scene_tag number)) x.home.shared

abbrev pub tagged : ℕ → List Block → List Entity
tagged number blocks = map (λ x. x.row.entity) (filter (is_tagged number) (placed blocks))

abbrev pub destroyed : (List ℕ → ℕ) → World → Entity → World
destroyed capacity w e = (operate capacity w (On e Destroy)).world

abbrev pub with_line : NoteLine → SceneState → SceneState
with_line line st = record st { lines = st.lines ++ line ∷ [] }

abbrev pub marked_unloaded : ℕ → Load → SceneState → SceneState
marked_unloaded k load st = record st { loads = slice_set st.loads k (record load { state = Unloaded }) }

-- the load at a place is unloaded
abbrev pub load_unloaded : (List ℕ → ℕ) → ℕ → ℕ → Load → SceneState → LoadState → SceneState
load_unloaded capacity frame k load st Requested = with_line (UnloadCancelled load.name frame) (marked_unloaded k load st)
load_unloaded capacity frame k load st Arrived =
    with_line (UnloadedLine load.name frame (length (tagged (k + 1) st.world.blocks)))
    (marked_unloaded k load (record st { world = fold (destroyed capacity) st.world (tagged (k + 1) st.world.blocks) }))
load_unloaded capacity frame k load st Refused = with_line (UnloadNone load.name frame) st
load_unloaded capacity frame k load st Unloaded = with_line (UnloadNone load.name frame) st

-- the place of the load of a name; none where it wasn't requested yet
abbrev pub load_named : List ℕ → List Load → Option ℕ
load_named name loads = position (λ l. same_name name l.name) loads

abbrev pub unloaded_there : (List ℕ → ℕ) → ℕ → List ℕ → SceneState → ℕ → Option Load → SceneState
unloaded_there capacity frame name st k None = with_line (UnloadNone name frame) st
unloaded_there capacity frame name st k (Some load) = load_unloaded capacity frame k load st load.state

abbrev pub unloaded_at : (List ℕ → ℕ) → ℕ → List ℕ → SceneState → Option ℕ → SceneState
unloaded_at capacity frame name st None = with_line (UnloadNone name frame) st
unloaded_at capacity frame name st (Some k) = unloaded_there capacity frame name st k (slice_get st.loads k)

-- the load of a name is unloaded
abbrev pub unloaded : (List ℕ → ℕ) → ℕ → List ℕ → SceneState → SceneState
unloaded capacity frame name st = unloaded_at capacity frame name st (load_named name st.loads)

-- the lines of the loads that are still waiting after the last frame
abbrev pub pending_lines : List Load → List NoteLine
pending_lines loads = map (λ l. ScenePending l.name) (filter (λ l. is_requested l.state) loads)
