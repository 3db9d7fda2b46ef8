-- The run of a scenario: its state, what each task makes of it, and how the run ends.
use Rattle.std.specs.Prelude.{ℕ, Bool, not, if◌then◌else◌, nat_eq, List, [], ◌∷◌, ◌++◌, length, map, filter, fold, slice_get, slice_set, sum_by, unwrap_or, replicate, Option, Some, None}
use Rattle.ent_types.specs.declared.point.Point.{Point}
use Rattle.ent_types.specs.declared.point.Point.TheVariants.{BeginInitialization, EndInitialization, BeginSimulation, EndSimulation, BeginPresentation}
use Rattle.world_model.specs.World.{World}
use Rattle.world_model.specs.Operations.{Reply, Made, Done, Skipped, Answer}
use Rattle.scenario_record.specs.declared.plan.Step.{Step}
use Rattle.scenario_record.specs.declared.record.Scenario.{Scenario}
use Rattle.scenario_record.specs.declared.record.SystemEntry.{SystemEntry}
use Rattle.scenario_record.specs.Lawful.{same_point}
use Rattle.run_model.specs.declared.lines.NoteLine.{NoteLine}
use Rattle.run_model.specs.declared.lines.NoteLine.TheVariants.{EventSkip, CommandSkip, Unplayed, KeyShared}
use Rattle.run_model.specs.declared.lines.TraceLine.{TraceLine}
use Rattle.run_model.specs.declared.lines.TraceLine.TheVariants.{Run as RunLine, Play as PlayLine}
use Rattle.run_model.specs.Clock.{Clock}
use Rattle.run_model.specs.Run.{Entry, RunResult, run}
use Rattle.run_model.specs.Buffers.{SharedKey, shared_key}
use Rattle.run_model.specs.Playback.{Note, PlaybackState, done_by, playback}
use Rattle.run_model.specs.Loads.{SceneFile, Load, SceneState, due_arrived, requested, unloaded, pending_lines}
use Rattle.run_model.specs.Tasks.{FrameEvent, Operates, Loads, Unloads, FrameStep, DoesEvents, Plays, Runs, Task, tasks_of, spawned}

-- ---- buffers

-- a buffer that waits: who recorded it in which frame, the point that plays it, and its entries
pub record Buffer : Type 0 where
  pub system : ℕ
  pub name : List ℕ
  pub frame : ℕ
  pub point : Point
  pub entries : List Entry

-- the points in the order of a frame
abbrev pub all_points : List Point
all_points = BeginInitialization ∷ EndInitialization ∷ BeginSimulation ∷ EndSimulation ∷ BeginPresentation ∷ []

abbrev pub buffer_at : ℕ → SystemEntry → ℕ → List Entry → Point → Buffer
buffer_at n s frame entries point = record {
  system = n;
  name = s.name;
  frame = frame;
  point = point;
  entries = filter (λ x. same_point x.command.point point) entries;
}

abbrev pub has_entry : Buffer → Bool
has_entry b = not (nat_eq (length b.entries) 0)

-- the buffers of a run, one for each point to which something was recorded
abbrev pub buffers_of : ℕ → SystemEntry → ℕ → List Entry → List Buffer
buffers_of n s frame entries = filter has_entry (map (buffer_at n s frame entries) all_points)

abbrev pub waits_at : Point → Buffer → Bool
waits_at point b = same_point b.point point

abbrev pub entry_count : List Buffer → ℕ
entry_count buffers = sum_by (λ b. length b.entries) buffers

-- ---- lines

pub data Line : Type 0 where
  Noted : NoteLine → Line
  Traced : TraceLine → Line

abbrev pub skip_line : ℕ → Buffer → Note → Line
skip_line frame b n =
    Noted (CommandSkip frame b.name b.point n.entry.item n.entry.place n.entry.command.number n.cause)

abbrev pub shared_line : ℕ → Buffer → SharedKey → Line
shared_line frame b k = Noted (KeyShared frame b.name b.point k.key k.first_item k.second_item)

abbrev pub unplayed_line : Buffer → Line
unplayed_line b = Noted (Unplayed b.frame b.name b.point (length b.entries))

abbrev pub event_lines : ℕ → ℕ → Reply → List NoteLine
event_lines frame k (Made e) = []
event_lines frame k Done = []
event_lines frame k (Skipped cause) = EventSkip frame k cause ∷ []

-- ---- the state

-- The world; the moment in which each system ran last, or none; the waiting buffers in the order in which they were
-- recorded; the loads in order of request; and the lines so far.
pub record State : Type 0 where
  pub world : World
  pub lasts : List (Option ℕ)
  pub waiting : List Buffer
  pub loads : List Load
  pub lines : List Line

-- a run goes on, or ended at a buffer with a shared key, with these lines
pub data Course : Type 0 where
  Goes : State → Course
  Stops : List Line → Course

abbrev pub with_world : State → World → State
with_world st w = record st { world = w }

abbrev pub with_lines : State → List Line → State
with_lines st lines = record st { lines = st.lines ++ lines }

-- the loads and the world of a state change together
abbrev pub with_scenes : State → SceneState → State
with_scenes st c = record st { world = c.world; loads = c.loads; lines = st.lines ++ map Noted c.lines }

abbrev pub scenes_changed : State → (SceneState → SceneState) → State
scenes_changed st change = with_scenes st (change (record { world = st.world; loads = st.loads; lines = [] }))

-- ---- tasks

module _ (clock : Clock) (capacity : List ℕ → ℕ) (trace : Bool) where
  abbrev pub raised : State → State
  raised st = with_world st (record (st.world) { moment = clock.next st.world.moment })

  abbrev pub trace_lines : TraceLine → List Line
  trace_lines line = if trace then Traced line ∷ [] else []

  -- events

  abbrev pub operation_done : ℕ → ℕ → State → Answer → State
  operation_done frame k st a = with_lines (with_world st a.world) (map Noted (event_lines frame k a.reply))

  abbrev pub event_done : ℕ → State → FrameEvent → State
  event_done frame st (Operates k operation) = operation_done frame k st (done_by capacity st.world operation)
  event_done frame st (Loads file name delay) = scenes_changed st (requested capacity frame file name delay)
  event_done frame st (Unloads name) = scenes_changed st (unloaded capacity frame name)

  -- the scenes that are due arrive first, then the frame's own events are done in order
  abbrev pub events_done : ℕ → List FrameEvent → State → State
  events_done frame events st = fold (event_done frame) (scenes_changed st (due_arrived capacity frame)) events

  -- points

  abbrev pub with_played : ℕ → State → Buffer → PlaybackState → State
  with_played frame st b p = with_lines (with_world st p.world) (map (skip_line frame b) p.notes)

  abbrev pub after_buffer : ℕ → State → Buffer → State
  after_buffer frame st b = with_played frame st b (playback capacity st.world b.entries)

  -- a shared key ends the run before what comes next
  abbrev pub unless_shared : ℕ → State → Buffer → Option SharedKey → Course → Course
  unless_shared frame st b None next = next
  unless_shared frame st b (Some k) next = Stops (st.lines ++ shared_line frame b k ∷ [])

  abbrev pub after_buffers : ℕ → List Buffer → State → Course
  after_buffers frame [] st = Goes st
  after_buffers frame (b ∷ bs) st =
      unless_shared frame st b (shared_key b.entries) (after_buffers frame bs (after_buffer frame st b))

  abbrev pub play_lines : ℕ → Point → World → List Buffer → List Line
  play_lines frame point w [] = []
  play_lines frame point w (b ∷ bs) =
      trace_lines (PlayLine frame point (clock.version w.moment) (length (b ∷ bs)) (entry_count (b ∷ bs)))

  abbrev pub after_waiting : ℕ → Point → State → List Buffer → Course
  after_waiting frame point st buffers = after_buffers frame buffers (with_lines
      (record (raised st) { waiting = filter (λ b. not (waits_at point b)) st.waiting })
      (play_lines frame point (raised st).world buffers))

  -- a point plays its waiting buffers, up to the first one with a shared key
  abbrev pub after_point : ℕ → Point → State → Course
  after_point frame point st = after_waiting frame point st (filter (waits_at point) st.waiting)

  -- systems

  abbrev pub last_run : List (Option ℕ) → ℕ → Option ℕ
  last_run lasts n = unwrap_or (slice_get lasts n) None

  abbrev pub run_line : ℕ → SystemEntry → RunResult → TraceLine
  run_line frame s ran =
      RunLine frame s.name (clock.version ran.world.moment) ran.visits ran.passing (length ran.entries)

  abbrev pub with_run : ℕ → ℕ → SystemEntry → State → RunResult → State
  with_run frame n s st ran = record st {
    world = ran.world;
    lasts = slice_set st.lasts n (Some ran.world.moment);
    waiting = st.waiting ++ buffers_of n s frame ran.entries;
    lines = st.lines ++ trace_lines (run_line frame s ran);
  }

  abbrev pub after_system : ℕ → ℕ → SystemEntry → State → State
  after_system frame n s st = with_run frame n s st (run clock s (last_run st.lasts n) frame st.world)

  abbrev pub step_done : ℕ → State → FrameStep → Course
  step_done frame st (DoesEvents events) = Goes (events_done frame events (raised st))
  step_done frame st (Plays point) = after_point frame point st
  step_done frame st (Runs n s) = Goes (after_system frame n s st)

  -- what a task makes of a state
  unfoldable pub course_after : State → Task → Course
  course_after st t = step_done t.frame st t.step

  abbrev pub course_after_all : List Task → Course → Course
  course_after_all [] course = course
  course_after_all (t ∷ ts) (Goes st) = course_after_all ts (course_after st t)
  course_after_all (t ∷ ts) (Stops lines) = Stops lines

-- ---- the whole run

-- the state after the spawns, in which no system has run
abbrev pub started : (List ℕ → ℕ) → Scenario → ℕ → State
started capacity s moment = record {
  world = spawned capacity s moment;
  lasts = replicate (length s.system) None;
  waiting = [];
  loads = [];
  lines = [];
}

-- How a run ends: after its last frame, with the world that is printed after the lines; or at a shared key.
pub data End : Type 0 where
  Finished : List Line → World → End
  AtSharedKey : List Line → End

-- the lines of what still waits come last
abbrev pub last_lines : State → List Line
last_lines st = map unplayed_line st.waiting ++ map Noted (pending_lines st.loads)

abbrev pub end_of : Course → End
end_of (Goes st) = Finished (st.lines ++ last_lines st) st.world
end_of (Stops lines) = AtSharedKey lines

-- The run of a scenario with the steps of its plan. `files` says what each scene file holds.
unfoldable pub end_of_run : Clock → (List ℕ → ℕ) → Bool → (List ℕ → SceneFile) → Scenario → List Step → ℕ → End
end_of_run clock capacity trace files s steps moment =
    end_of (course_after_all clock capacity trace (tasks_of files s steps) (Goes (started capacity s moment)))
