-- The parts of a frame: its events, its points, and the phases of its systems between them.
use Rattle.std.specs.Prelude.{ℕ, Bool, false, if◌then◌else◌, List, [], ◌∷◌, ◌++◌, map, filter, flat_map, slice_get, Option, Some, None}
use Rattle.std.specs.List.{range_with_len}
use Rattle.ent_types.specs.declared.point.Point.{Point}
use Rattle.ent_types.specs.declared.type_info.TypeInfo.{TypeInfo}
use Rattle.scenario_record.specs.declared.plan.Step.{Step}
use Rattle.scenario_record.specs.declared.plan.Step.TheVariants.{Events, Play, Run}
use Rattle.scenario_record.specs.declared.record.Scenario.{Scenario}
use Rattle.scenario_record.specs.declared.record.SystemEntry.{SystemEntry}
use Rattle.run_model.specs.Clock.{Clock}
use Rattle.run_model.specs.Loads.{SceneFile}
use Rattle.run_model.specs.Tasks.{DoesEvents, Plays, frame_events_from, runs_in}
use Rattle.run_model.specs.Frames.{State, Course, Goes, Stops, step_done, End, end_of, started}
use Rattle.run_model.specs.Steps.{numbers_below}
use Rattle.run_model.specs.Phases.{conflicts, phases_by}
use Rattle.run_model.specs.PhaseSteps.{Numbered, after_phase}

-- the events, a point, or a phase with the numbers of its systems
pub data FramePart : Type 0 where
  EventsPart : FramePart
  PointPart : Point → FramePart
  PhasePart : List ℕ → FramePart

-- the numbers of the systems of steps, in order
abbrev pub system_numbers : List Step → List ℕ
system_numbers [] = []
system_numbers (Events ∷ steps) = system_numbers steps
system_numbers (Play point ∷ steps) = system_numbers steps
system_numbers (Run n ∷ steps) = n ∷ system_numbers steps

-- ---- the parts of steps, by which systems conflict and which run in the frame

module _ (conflict : ℕ → ℕ → Bool) (runs : ℕ → Bool) where
  -- The parts of steps that come after these running systems. Events and points end a phase. The systems of two roots have
  -- a point between them, so each phase has systems of one root.
  abbrev pub parts_from : List ℕ → List Step → List FramePart
  parts_from systems [] = map PhasePart (phases_by conflict systems)
  parts_from systems (Events ∷ steps) = map PhasePart (phases_by conflict systems) ++ EventsPart ∷ parts_from [] steps
  parts_from systems (Play point ∷ steps) = map PhasePart (phases_by conflict systems) ++ PointPart point ∷ parts_from [] steps
  parts_from systems (Run n ∷ steps) = parts_from (if runs n then systems ++ n ∷ [] else systems) steps

-- ---- the same of a scenario

abbrev pub do_conflict : List TypeInfo → Option SystemEntry → Option SystemEntry → Bool
do_conflict registry None r = false
do_conflict registry (Some s) None = false
do_conflict registry (Some s) (Some r) = conflicts registry s r

-- whether the systems with two numbers conflict
abbrev pub conflict_at : Scenario → ℕ → ℕ → Bool
conflict_at s n m = do_conflict s.registry (slice_get s.system n) (slice_get s.system m)

abbrev pub does_run : ℕ → Option SystemEntry → Bool
does_run frame None = false
does_run frame (Some y) = runs_in frame y

-- whether the system with a number runs in a frame
abbrev pub runs_at : Scenario → ℕ → ℕ → Bool
runs_at s frame n = does_run frame (slice_get s.system n)

-- The parts of a frame of a scenario. A system that doesn't run in the frame is in no phase and ends none.
unfoldable pub frame_parts : Scenario → ℕ → List Step → List FramePart
frame_parts s frame steps = parts_from (conflict_at s) (runs_at s frame) [] steps

-- the running systems below a root, in their order
abbrev pub running_below : Scenario → ℕ → ℕ → List ℕ
running_below s frame number = filter (runs_at s frame) (numbers_below s number)

-- their phases
abbrev pub phases_below : Scenario → ℕ → ℕ → List FramePart
phases_below s frame number = map PhasePart (phases_by (conflict_at s) (running_below s frame number))

-- ---- what the parts make of a state

abbrev pub numbered : ℕ → Option SystemEntry → List Numbered
numbered n None = []
numbered n (Some y) = record { number = n; system = y } ∷ []

-- the systems with these numbers
abbrev pub systems_at : Scenario → List ℕ → List Numbered
systems_at s ns = flat_map (λ n. numbered n (slice_get s.system n)) ns

module _ (clock : Clock) (capacity : List ℕ → ℕ) (trace : Bool) (files : List ℕ → SceneFile) (s : Scenario) where
  -- what a part makes of a state; the systems of a phase run side by side
  abbrev pub part_done : ℕ → State → FramePart → Course
  part_done frame st EventsPart = step_done clock capacity trace frame st (DoesEvents (frame_events_from files s.registry frame 0 s.event))
  part_done frame st (PointPart point) = step_done clock capacity trace frame st (Plays point)
  part_done frame st (PhasePart ns) = Goes (after_phase clock capacity trace frame (systems_at s ns) st)

  abbrev pub course_after_parts : ℕ → List FramePart → Course → Course
  course_after_parts frame [] course = course
  course_after_parts frame (p ∷ ps) (Goes st) = course_after_parts frame ps (part_done frame st p)
  course_after_parts frame (p ∷ ps) (Stops lines) = Stops lines

  -- frames one after another, each by its parts
  abbrev pub course_after_frames : List Step → List ℕ → Course → Course
  course_after_frames steps [] course = course
  course_after_frames steps (frame ∷ frames) course =
      course_after_frames steps frames (course_after_parts frame (frame_parts s frame steps) course)

  -- the run of a scenario, phase after phase
  unfoldable pub end_by_phases : List Step → ℕ → End
  end_by_phases steps moment =
      end_of (course_after_frames steps (range_with_len 1 s.frames) (Goes (started capacity s moment)))
