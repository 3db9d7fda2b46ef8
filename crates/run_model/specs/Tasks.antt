-- The tasks of a run: the steps of its frames in order, with all that depends on the scenario alone.
use Rattle.std.specs.Prelude.{ℕ, ◌+◌, ◌-◌, ◌%◌, Bool, if◌then◌else◌, nat_eq, List, [], ◌∷◌, ◌++◌, map, fold, flat_map, slice_get, Option, Some, None}
use Rattle.std.specs.List.{range_with_len}
use Rattle.ent_types.specs.declared.entity.Entity.{Entity}
use Rattle.ent_types.specs.declared.point.Point.{Point}
use Rattle.ent_types.specs.declared.type_info.TypeInfo.{TypeInfo}
use Rattle.ent_types.specs.declared.value.Value.{Value}
use Rattle.world_model.specs.Part.{PartOf, part_map}
use Rattle.world_model.specs.World.{World, empty_world}
use Rattle.world_model.specs.Operations.{Operation, Create, operate}
use Rattle.world_model.specs.Scenes.{all_off}
use Rattle.expr_eval.specs.Values.{OtherRows}
use Rattle.expr_eval.specs.Rows.{others_of}
use Rattle.scenario_record.specs.declared.plan.Step.{Step}
use Rattle.scenario_record.specs.declared.plan.Step.TheVariants.{Events, Play, Run}
use Rattle.scenario_record.specs.declared.record.EventAct.{EventAct}
use Rattle.scenario_record.specs.declared.record.EventAct.TheVariants.{Operate, Load, Unload}
use Rattle.scenario_record.specs.declared.record.EventEntry.{EventEntry}
use Rattle.scenario_record.specs.declared.record.Scenario.{Scenario}
use Rattle.scenario_record.specs.declared.record.SpawnEntry.{SpawnEntry}
use Rattle.scenario_record.specs.declared.record.SystemEntry.{SystemEntry}
use Rattle.run_model.specs.Job.{no_row}
use Rattle.run_model.specs.Commands.{change_of, part_given}
use Rattle.run_model.specs.Playback.{operation_of, value_given}
use Rattle.run_model.specs.Loads.{SceneFile}

-- what no row sees of other rows: there is none
abbrev pub no_others : OtherRows
no_others = others_of (λ e. None)

abbrev pub nothing_made : ℕ → Option Entity
nothing_made n = None

-- ---- spawns

-- the parts of a row with its number in the spawn
abbrev pub spawn_parts : List TypeInfo → SpawnEntry → ℕ → List (PartOf Value)
spawn_parts registry s n = map (λ p. part_map (value_given nothing_made) (part_given registry (no_row n 0) no_others p)) s.parts

-- the world with one row more of a spawn
abbrev pub after_row_spawned : (List ℕ → ℕ) → SpawnEntry → World → ℕ → World
after_row_spawned capacity s w n = all_off capacity s.disabled (operate capacity w (Create (spawn_parts w.registry s n)))

abbrev pub after_spawn : (List ℕ → ℕ) → World → SpawnEntry → World
after_spawn capacity w s = fold (after_row_spawned capacity s) w (range_with_len 0 s.count)

-- the world after the spawns, at the first moment
unfoldable pub spawned : (List ℕ → ℕ) → Scenario → ℕ → World
spawned capacity s moment = fold (after_spawn capacity) (empty_world s.registry s.first_entity_version moment) s.spawn

-- ---- events

-- What an event does in its frame. An operation has the event's place in the list.
pub data FrameEvent : Type 0 where
  Operates : ℕ → Option Operation → FrameEvent
  Loads : SceneFile → List ℕ → ℕ → FrameEvent
  Unloads : List ℕ → FrameEvent

module _ (files : List ℕ → SceneFile) (registry : List TypeInfo) (frame : ℕ) where
  abbrev pub frame_event_of : ℕ → EventAct → FrameEvent
  frame_event_of k (Operate act) = Operates k (operation_of nothing_made (change_of registry (no_row 0 frame) no_others act))
  frame_event_of k (Load file label delay) = Loads (files file) label delay
  frame_event_of k (Unload label) = Unloads label

  -- the events of a frame among those from this place on
  abbrev pub frame_events_from : ℕ → List EventEntry → List FrameEvent
  frame_events_from k [] = []
  frame_events_from k (e ∷ es) = (if nat_eq e.frame frame then frame_event_of k e.act ∷ [] else []) ++ frame_events_from (k + 1) es

-- ---- steps

pub data FrameStep : Type 0 where
  DoesEvents : List FrameEvent → FrameStep
  Plays : Point → FrameStep
  Runs : ℕ → SystemEntry → FrameStep

-- something that is done in a frame; each raises the moment by 1
pub record Task : Type 0 where
  pub frame : ℕ
  pub step : FrameStep

-- a system runs in each frame whose number less 1 is a multiple of its `every`
abbrev pub runs_in : ℕ → SystemEntry → Bool
runs_in frame s = nat_eq ((frame - 1) % s.every) 0

module _ (files : List ℕ → SceneFile) (s : Scenario) (frame : ℕ) where
  abbrev pub run_step : ℕ → Option SystemEntry → List FrameStep
  run_step n None = []
  run_step n (Some system) = if runs_in frame system then Runs n system ∷ [] else []

  -- a step of the plan; a system that doesn't run in this frame does nothing, and raises no moment
  abbrev pub frame_steps_of : Step → List FrameStep
  frame_steps_of Events = DoesEvents (frame_events_from files s.registry frame 0 s.event) ∷ []
  frame_steps_of (Play point) = Plays point ∷ []
  frame_steps_of (Run n) = run_step n (slice_get s.system n)

  abbrev pub frame_tasks : List Step → List Task
  frame_tasks steps = map (λ step. record { frame = frame; step = step }) (flat_map frame_steps_of steps)

-- the tasks of all frames, whose numbers are 1, 2, ..
abbrev pub tasks_of : (List ℕ → SceneFile) → Scenario → List Step → List Task
tasks_of files s steps = flat_map (λ frame. frame_tasks files s frame steps) (range_with_len 1 s.frames)
