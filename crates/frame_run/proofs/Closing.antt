-- From the first stage to the text of the whole run.
use Rattle.std.proofs.Common.{◌≡◌, ℕ, Bool, List, [], ◌∷◌, ◌++◌, Option, sym, ap, ◌∙◌, subst, length}
use Rattle.std.proofs.lemmas.List.{append-nil}
use Rattle.ent_io.specs.End.{end_of, status_of}
use Rattle.ent_io.specs.Text.{AppendsPrefix}
use Rattle.ent_io.specs.declared.end.Status.{Status}
use Rattle.ent_io.specs.declared.end.TextEnd.{TextEnd}
use Rattle.ent_io.specs.declared.end.TextEnd.TheVariants.{WriteFault, Memory}
use Rattle.ent_io.proofs.Appends.{appended-nil, prefix_within}
use Rattle.run_laws.proofs.Steady.{spawned_types}
use Rattle.world_model.specs.World.{World, capacity}
use Rattle.scenario_record.specs.declared.plan.Step.{Step}
use Rattle.scenario_record.specs.declared.record.Scenario.{Scenario}
use Rattle.run_model.specs.Frames.{End}
use Rattle.run_model.specs.Tasks.{Task, spawned, tasks_of}
use Rattle.structural_ops.specs.Worlds.{WorldState}
use Rattle.world_text.specs.Lines.{world_text}
use Rattle.frame_run.specs.declared.runner.Runner.{Runner}
use Rattle.frame_run.specs.Doing.{first_stage, run_text, stage_after, text_of}
use Rattle.frame_run.specs.Ending.{EndsAs, end_text}
use Rattle.frame_run.specs.Runners.{AreRunnersOf, IsReady, never_ran, stage_of}
use Rattle.frame_run.specs.Stages.{Stage, no_files}
use Rattle.frame_run.proofs.Found.{first_is}

-- a prefix of the first part is one of the whole
pub prefix_of_part : (whole part rest : List ℕ) (old new : Option (List ℕ)) → whole ≡ part ++ rest → AppendsPrefix part old new → AppendsPrefix whole old new
prefix_of_part whole part rest old new is prefix = prefix_within whole [] part rest old old new is (sym (appended-nil old)) prefix

-- the last part follows the first one
pub last_part : (whole part rest : List ℕ) → whole ≡ part ++ rest → whole ≡ part ++ (rest ++ [])
last_part whole part rest is = is ∙ ap (λ (text : List ℕ). part ++ text) (sym (append-nil rest))

-- after the spawns, with runners that never ran
module _ (s : Scenario) (w : WorldState) (items rs : List Runner) (same : rs ≡ items) (made : w.world ≡ spawned (capacity s.registry) s s.first_system_version)
    (runners : (archetypes : List (List ℕ)) → AreRunnersOf s.registry archetypes s.system items) where
  pub ready_first : IsReady s w rs
  ready_first = record {
    registry = ap (λ (u : World). u.registry) made ∙ spawned_types (capacity s.registry) s s.first_system_version;
    runners = subst (AreRunnersOf s.registry w.archetypes s.system) (sym same) (runners w.archetypes);
  }

  pub stage_first : never_ran items → stage_of w rs ≡ first_stage s
  stage_first never = ap (stage_of w) same ∙ first_is s w items made (runners w.archetypes).count never

module _ (s : Scenario) (trace : Bool) (steps : List Step) (g : Stage) (first : g ≡ first_stage s) where
  abbrev tasks : List Task
  tasks = tasks_of no_files s steps

  pub parts_of_run : run_text s trace steps ≡ text_of s trace tasks g ++ world_text s.frames (stage_after s trace tasks g).world
  parts_of_run = ap (λ (h : Stage). text_of s trace tasks h ++ world_text s.frames (stage_after s trace tasks h).world) (sym first)

  pub parts_reached : (last : Stage) → last ≡ stage_after s trace tasks g → run_text s trace steps ≡ text_of s trace tasks g ++ world_text s.frames last.world
  parts_reached last reached = parts_of_run ∙ ap (λ (h : Stage). text_of s trace tasks g ++ world_text s.frames h.world) (sym reached)

-- an end before the last line
pub ends_early : (frames : ℕ) (e : End) (cause : TextEnd) (status : Status) (old new : Option (List ℕ)) → status ≡ status_of (end_of cause) → AppendsPrefix (end_text frames e) old new
    → EndsAs frames e status old new
ends_early frames e cause status old new is prefix = subst (λ x. EndsAs frames e x old new) (sym is) (by cause)
  where
    by : (cause : TextEnd) → EndsAs frames e (status_of (end_of cause)) old new
    by WriteFault = prefix
    by Memory = prefix
