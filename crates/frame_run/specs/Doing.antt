-- The tasks of a scenario over versions of 32 bits, and the bytes of their lines.
use Rattle.std.specs.Prelude.{ℕ, Bool, List, ◌++◌, length, map, replicate, None}
use Rattle.world_model.specs.World.{capacity}
use Rattle.scenario_record.specs.declared.plan.Step.{Step}
use Rattle.scenario_record.specs.declared.record.Scenario.{Scenario}
use Rattle.run_model.specs.Clock.{versions}
use Rattle.run_model.specs.Tasks.{FrameStep, Task, frame_steps_of, frame_tasks, spawned, tasks_of}
use Rattle.world_text.specs.Lines.{lines_text, world_text}
use Rattle.frame_run.specs.Stages.{Stage, after_tasks, lines_of_tasks, no_files}

abbrev pub task_in : ℕ → FrameStep → Task
task_in frame step = record { frame = frame; step = step }

-- what a step of the plan does in a frame: one task or none
abbrev pub tasks_of_step : Scenario → ℕ → Step → List Task
tasks_of_step s frame step = map (task_in frame) (frame_steps_of no_files s frame step)

-- the same of some steps in order
abbrev pub tasks_of_steps : Scenario → ℕ → List Step → List Task
tasks_of_steps s frame steps = frame_tasks no_files s frame steps

abbrev pub stage_after : Scenario → Bool → List Task → Stage → Stage
stage_after s trace tasks g = after_tasks versions (capacity s.registry) trace tasks g

abbrev pub text_of : Scenario → Bool → List Task → Stage → List ℕ
text_of s trace tasks g = lines_text (lines_of_tasks versions (capacity s.registry) trace tasks g)

-- the stage after the spawns, in which no system has run
abbrev pub first_stage : Scenario → Stage
first_stage s = record { world = spawned (capacity s.registry) s s.first_system_version; lasts = replicate (length s.system) None }

-- the text of the run with these steps: the lines of its tasks, and then the world
abbrev pub run_text : Scenario → Bool → List Step → List ℕ
run_text s trace steps =
    text_of s trace (tasks_of no_files s steps) (first_stage s)
    ++ world_text s.frames (stage_after s trace (tasks_of no_files s steps) (first_stage s)).world
