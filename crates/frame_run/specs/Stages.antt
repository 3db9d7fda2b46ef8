-- What the tasks of a run make of a world, where nothing is recorded and no scene is on its way, and which lines they write.
use Rattle.std.specs.Prelude.{ℕ, Bool, List, [], ◌∷◌, ◌++◌, map, slice_set, Option, Some}
use Rattle.ent_types.specs.declared.type_info.TypeInfo.{TypeInfo}
use Rattle.world_model.specs.World.{World, capacity}
use Rattle.world_model.specs.Operations.{Answer}
use Rattle.expr_trees.specs.declared.tree.CommandText.{CommandText}
use Rattle.scenario_record.specs.declared.record.EventEntry.{EventEntry}
use Rattle.scenario_record.specs.declared.record.SystemEntry.{SystemEntry}
use Rattle.run_model.specs.Clock.{Clock}
use Rattle.run_model.specs.Loads.{SceneFile, Absent}
use Rattle.run_model.specs.Playback.{done_by}
use Rattle.run_model.specs.Run.{RunResult, run}
use Rattle.run_model.specs.Tasks.{FrameEvent, Operates, Loads, Unloads, FrameStep, DoesEvents, Plays, Runs, Task, frame_events_from}
use Rattle.run_model.specs.Frames.{Line, Noted, State, event_lines, last_run, run_line, trace_lines}
use Rattle.command_texts.specs.Events.{event_operation}

-- the world, and the moment in which each system ran last
pub record Stage : Type 0 where
  pub world : World
  pub lasts : List (Option ℕ)

-- the state of a run after some lines, where nothing waits and there is no load
abbrev pub state_of : Stage → List Line → State
state_of g lines = record { world = g.world; lasts = g.lasts; waiting = []; loads = []; lines = lines }

-- ---- events

-- a run that loads nothing reads no file
abbrev pub no_files : List ℕ → SceneFile
no_files name = Absent

-- what the events of a frame among these do, of which the first has this place in the list
abbrev pub events_at : List TypeInfo → ℕ → ℕ → List EventEntry → List FrameEvent
events_at registry frame k events = frame_events_from no_files registry frame k events

-- what comes of the operation of an event's text
abbrev pub answer_to : ℕ → CommandText → World → Answer
answer_to frame act w = done_by (capacity w.registry) w (event_operation w.registry frame act)

module _ (capacity : List ℕ → ℕ) (frame : ℕ) where
  abbrev pub after_event : World → FrameEvent → World
  after_event w (Operates k operation) = (done_by capacity w operation).world
  after_event w (Loads file name delay) = w
  after_event w (Unloads name) = w

  abbrev pub lines_of_event : World → FrameEvent → List Line
  lines_of_event w (Operates k operation) = map Noted (event_lines frame k (done_by capacity w operation).reply)
  lines_of_event w (Loads file name delay) = []
  lines_of_event w (Unloads name) = []

  abbrev pub after_events : List FrameEvent → World → World
  after_events [] w = w
  after_events (e ∷ es) w = after_events es (after_event w e)

  abbrev pub lines_of_events : List FrameEvent → World → List Line
  lines_of_events [] w = []
  lines_of_events (e ∷ es) w = lines_of_event w e ++ lines_of_events es (after_event w e)

-- ---- steps

module _ (clock : Clock) (capacity : List ℕ → ℕ) (trace : Bool) where
  abbrev pub raised_world : World → World
  raised_world w = record w { moment = clock.next w.moment }

  abbrev pub run_of : ℕ → ℕ → SystemEntry → Stage → RunResult
  run_of frame n s g = run clock s (last_run clock capacity trace g.lasts n) frame g.world

  abbrev pub with_ran : ℕ → Stage → RunResult → Stage
  with_ran n g ran = record { world = ran.world; lasts = slice_set g.lasts n (Some ran.world.moment) }

  abbrev pub after_step : ℕ → FrameStep → Stage → Stage
  after_step frame (DoesEvents events) g = record g { world = after_events capacity frame events (raised_world g.world) }
  after_step frame (Plays point) g = record g { world = raised_world g.world }
  after_step frame (Runs n s) g = with_ran n g (run_of frame n s g)

  abbrev pub lines_of_step : ℕ → FrameStep → Stage → List Line
  lines_of_step frame (DoesEvents events) g = lines_of_events capacity frame events (raised_world g.world)
  lines_of_step frame (Plays point) g = []
  lines_of_step frame (Runs n s) g = trace_lines clock capacity trace (run_line clock capacity trace frame s (run_of frame n s g))

  -- ---- tasks

  abbrev pub after_tasks : List Task → Stage → Stage
  after_tasks [] g = g
  after_tasks (t ∷ ts) g = after_tasks ts (after_step t.frame t.step g)

  abbrev pub lines_of_tasks : List Task → Stage → List Line
  lines_of_tasks [] g = []
  lines_of_tasks (t ∷ ts) g = lines_of_step t.frame t.step g ++ lines_of_tasks ts (after_step t.frame t.step g)
