-- Lawful states of a run with scenes, and tasks that suit them.
use Rattle.std.specs.Prelude.{◌≡◌, ℕ, ◌+◌, ◌≤◌, List, [], ◌∷◌, length}
use Rattle.ent_types.specs.declared.limits.TheConstants.{MOST_EVENTS}
use Rattle.ent_types.specs.declared.type_info.TypeInfo.{TypeInfo}
use Rattle.world_model.specs.Members.{In}
use Rattle.world_model.specs.Lawful.{IsLawful}
use Rattle.world_model.specs.Scenes.{Node, IsLawfulNode}
use Rattle.run_model.specs.Loads.{SceneFile, Absent, TooLong, Faulty, Spelled, Load}
use Rattle.run_model.specs.Tasks.{FrameEvent, Operates, Loads, Unloads, FrameStep, DoesEvents, Plays, Runs, Task}
use Rattle.run_model.specs.Frames.{Buffer, State, Course, Goes, Stops}
use Rattle.run_laws.specs.Suits.{OperationSuits, AllSuit, SystemSuits}

-- a file that adds nothing, or one of nodes that are lawful with these types
abbrev pub IsLawfulFile : List TypeInfo → SceneFile → Type 0
IsLawfulFile registry Absent = Unit {0}
IsLawfulFile registry TooLong = Unit {0}
IsLawfulFile registry (Faulty fault) = Unit {0}
IsLawfulFile registry (Spelled nodes) = (node : Node) → In node nodes → IsLawfulNode registry node

-- a lawful world, buffers that can be played, and loads of lawful files
pub record IsLawfulState (capacity : List ℕ → ℕ) (registry : List TypeInfo) (st : State) : Type 0 where
  pub world : IsLawful capacity st.world
  pub registry_is : st.world.registry ≡ registry
  pub waiting : (b : Buffer) → In b st.waiting → AllSuit registry b.entries
  pub loads : (load : Load) → In load st.loads → IsLawfulFile registry load.file

-- ---- tasks

abbrev pub EventSuits : List TypeInfo → FrameEvent → Type 0
EventSuits registry (Operates k operation) = OperationSuits registry operation
EventSuits registry (Loads file name delay) = IsLawfulFile registry file
EventSuits registry (Unloads name) = Unit {0}

abbrev pub StepSuits : List TypeInfo → FrameStep → Type 0
StepSuits registry (DoesEvents events) = (h : FrameEvent) → In h events → EventSuits registry h
StepSuits registry (Plays point) = Unit {0}
StepSuits registry (Runs n s) = SystemSuits registry s

-- ---- loads that are requested

abbrev pub event_requests : FrameEvent → ℕ
event_requests (Operates k operation) = 0
event_requests (Loads file name delay) = 1
event_requests (Unloads name) = 0

abbrev pub events_requests : List FrameEvent → ℕ
events_requests [] = 0
events_requests (h ∷ hs) = event_requests h + events_requests hs

abbrev pub step_requests : FrameStep → ℕ
step_requests (DoesEvents events) = events_requests events
step_requests (Plays point) = 0
step_requests (Runs n s) = 0

abbrev pub task_requests : List Task → ℕ
task_requests [] = 0
task_requests (t ∷ ts) = step_requests t.step + task_requests ts

-- With n further loads there are at most as many as a scenario has events, so each load's number fits the scene tag.
abbrev pub HasFewLoads : ℕ → State → Type 0
HasFewLoads more st = length st.loads + more ≤ MOST_EVENTS

-- ---- what a run leaves

-- what a state that goes on is; a run that ended has no state
abbrev pub OnGoes : (State → Type 0) → Course → Type 0
OnGoes P (Goes st) = P st
OnGoes P (Stops lines) = Unit {0}

-- lawful, with n loads in all
pub record IsLawfulWith (capacity : List ℕ → ℕ) (registry : List TypeInfo) (count : ℕ) (st : State) : Type 0 where
  pub lawful : IsLawfulState capacity registry st
  pub count_is : length st.loads ≡ count
