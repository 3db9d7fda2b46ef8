-- The run of a scenario as a whole, with nothing left to choose.
use Rattle.std.specs.Prelude.{ℕ, Bool, List, take}
use Rattle.world_model.specs.World.{capacity}
use Rattle.scenario_record.specs.declared.record.Scenario.{Scenario}
use Rattle.run_model.specs.Clock.{moments}
use Rattle.run_model.specs.Loads.{SceneFile}
use Rattle.run_model.specs.Tasks.{Task, tasks_of}
use Rattle.run_model.specs.Frames.{Course, Goes, End, started, course_after_all, end_of_run}
use Rattle.run_model.specs.Steps.{steps_of}

-- the moment of the spawns
abbrev pub first_moment : ℕ
first_moment = 1

-- How the run of a scenario ends. It begins at the first moment, which has the scenario's first system version. Fresh
-- entities have its first entity version, blocks have the capacity of their types, and each frame has the steps of the
-- scenario's groups and systems. `files` says what each scene file holds.
unfoldable pub outcome : Bool → (List ℕ → SceneFile) → Scenario → End
outcome trace files s =
    end_of_run (moments s.first_system_version) (capacity s.registry) trace files s (steps_of s) first_moment

-- all that the run does, in order
abbrev pub tasks_of_run : (List ℕ → SceneFile) → Scenario → List Task
tasks_of_run files s = tasks_of files s (steps_of s)

-- the run after its first `n` tasks
abbrev pub course_of_first : Bool → (List ℕ → SceneFile) → Scenario → ℕ → Course
course_of_first trace files s n =
    course_after_all (moments s.first_system_version) (capacity s.registry) trace (take n (tasks_of_run files s))
    (Goes (started (capacity s.registry) s first_moment))
