-- The parts of a frame, by what a plan says of its systems.
use Rattle.std.specs.Prelude.{ℕ, Bool, false, if◌then◌else◌, List, [], ◌∷◌, ◌++◌, slice_get, unwrap_or, Option, Some, None}
use Rattle.std.specs.List.{list_any}
use Rattle.scenario_record.specs.declared.plan.Access.{Access}
use Rattle.scenario_record.specs.declared.plan.Step.{Step}
use Rattle.scenario_record.specs.declared.plan.Step.TheVariants.{Events, Play, Run}
use Rattle.run_model.specs.Phases.{accesses_conflict}
use Rattle.run_model.specs.FrameParts as model
use Rattle.job_plan.specs.declared.phase.FramePart.{FramePart}
use Rattle.job_plan.specs.declared.phase.FramePart.TheVariants as parts

-- ---- what a plan says of systems, by their numbers

abbrev pub do_conflict : Option Access → Option Access → Bool
do_conflict None b = false
do_conflict (Some a) None = false
do_conflict (Some a) (Some b) = accesses_conflict a b

-- whether the systems with two numbers conflict, by what each system touches
abbrev pub access_conflict_at : List Access → ℕ → ℕ → Bool
access_conflict_at access n m = do_conflict (slice_get access n) (slice_get access m)

-- whether the system with a number runs
abbrev pub is_running : List Bool → ℕ → Bool
is_running running n = unwrap_or (slice_get running n) false

-- ---- parts

-- a part in the words of runs
abbrev pub model_part : FramePart → model.FramePart
model_part parts.Events = model.EventsPart
model_part (parts.Play point) = model.PointPart point
model_part (parts.Phase systems) = model.PhasePart systems

-- ---- parts one step after another, where the last phase is open

-- the phase that ends; one without systems is no part
abbrev pub ended : List ℕ → List model.FramePart
ended [] = []
ended (n ∷ ns) = model.PhasePart (n ∷ ns) ∷ []

module _ (conflict : ℕ → ℕ → Bool) where
  -- the phase that ends with a system which runs, if one ends
  abbrev pub closed_by : List ℕ → ℕ → List model.FramePart
  closed_by phase n = if list_any (conflict n) phase then model.PhasePart phase ∷ [] else []

  -- the phase that is open after that system
  abbrev pub opened_by : List ℕ → ℕ → List ℕ
  opened_by phase n = if list_any (conflict n) phase then n ∷ [] else phase ++ n ∷ []

  -- the parts of steps that come after the open phase
  abbrev pub parts_after : (ℕ → Bool) → List ℕ → List Step → List model.FramePart
  parts_after runs phase [] = ended phase
  parts_after runs phase (Events ∷ steps) = ended phase ++ model.EventsPart ∷ parts_after runs [] steps
  parts_after runs phase (Play point ∷ steps) = ended phase ++ model.PointPart point ∷ parts_after runs [] steps
  parts_after runs phase (Run n ∷ steps) =
      if runs n
      then closed_by phase n ++ parts_after runs (opened_by phase n) steps
      else parts_after runs phase steps
