-- The end of a simple run: its text, and its status.
use Rattle.std.proofs.Common.{◌≡◌, ℕ, Bool, List, [], ◌∷◌, ◌++◌, map, length, Option, Some, None, refl, sym, ap, ap₂, ◌∙◌, subst}
use Rattle.std.specs.Prelude.{replicate}
use Rattle.std.proofs.lemmas.List.{append-nil}
use Rattle.ent_io.specs.declared.end.Status.TheVariants.{Done}
use Rattle.world_model.specs.World.{World, capacity}
use Rattle.world_model.specs.Versions.{world_versions}
use Rattle.system_version.specs.Versions.{version_of}
use Rattle.scenario_record.specs.declared.record.Scenario.{Scenario}
use Rattle.run_model.specs.Clock.{versions}
use Rattle.run_model.specs.Loads.{SceneFile}
use Rattle.run_model.specs.Tasks.{Task, spawned, tasks_of}
use Rattle.run_model.specs.Frames.{Line, Course, Goes, End, Finished, AtSharedKey, course_after_all, end_of, end_of_run, started}
use Rattle.run_model.specs.Steps.{steps_of}
use Rattle.run_model.specs.Outcome.{outcome}
use Rattle.run_laws.specs.Versions.{end_versions}
use Rattle.world_text.specs.Lines.{lines_text, world_text}
use Rattle.frame_run.specs.Ending.{end_status, end_text}
use Rattle.frame_run.specs.Simple.{IsSimple}
use Rattle.frame_run.specs.Stages.{Stage, after_tasks, lines_of_tasks, no_files, state_of}
use Rattle.frame_run.specs.Doing.{first_stage, run_text, stage_after}
use Rattle.frame_run.proofs.Simply.{run_simple}
use Rattle.frame_run.proofs.Courses.{tasks_go}
use Rattle.frame_run.proofs.Files.{same_tasks}

abbrev run_tasks : Scenario → List Task
run_tasks s = tasks_of no_files s (steps_of s)

module _ (s : Scenario) (simple : IsSimple s) (trace : Bool) (files : List ℕ → SceneFile) where
  abbrev lines : List Line
  lines = lines_of_tasks versions (capacity s.registry) trace (run_tasks s) (first_stage s)

  abbrev last : Stage
  last = stage_after s trace (run_tasks s) (first_stage s)

  finishes : end_of_run versions (capacity s.registry) trace files s (steps_of s) s.first_system_version ≡ Finished lines last.world
  unfolding end_of_run
  finishes =
      ap (λ (ts : List Task). end_of (course_of ts)) (same_tasks files no_files s simple (steps_of s))
      ∙ (ap end_of (tasks_go versions (capacity s.registry) trace (run_tasks s) (run_simple no_files s simple (steps_of s)) (first_stage s) [])
      ∙ ap (λ (ls : List Line). Finished ls last.world) (append-nil lines))
    where
      course_of : List Task → Course
      course_of ts = course_after_all versions (capacity s.registry) trace ts (Goes (started (capacity s.registry) s s.first_system_version))

  module _ (v : ℕ → ℕ) (turned : end_of_run versions (capacity s.registry) trace files s (steps_of s) s.first_system_version ≡ end_versions v (outcome trace files s)) where
    text_turned : ((w : World) → world_text s.frames (world_versions v w) ≡ world_text s.frames w) → (e : End) → end_text s.frames (end_versions v e) ≡ end_text s.frames e
    text_turned same (Finished ls w) = ap (λ (text : List ℕ). lines_text ls ++ text) (same w)
    text_turned same (AtSharedKey ls) = refl

    status_turned : (e : End) → end_status (end_versions v e) ≡ end_status e
    status_turned (Finished ls w) = refl
    status_turned (AtSharedKey ls) = refl

    pub whole_text : ((w : World) → world_text s.frames (world_versions v w) ≡ world_text s.frames w) → end_text s.frames (outcome trace files s) ≡ run_text s trace (steps_of s)
    whole_text same = sym (text_turned same (outcome trace files s)) ∙ ap (end_text s.frames) (sym turned ∙ finishes)

    pub whole_status : end_status (outcome trace files s) ≡ Done
    whole_status = sym (status_turned (outcome trace files s)) ∙ ap end_status (sym turned ∙ finishes)
