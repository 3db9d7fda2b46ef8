-- Tasks one list after another: those of the steps of a frame, and of frames.
use Rattle.std.proofs.Common.{◌≡◌, ℕ, ◌+◌, ◌-◌, ◌<◌, suc, Bool, List, [], ◌∷◌, ◌++◌, map, Option, refl, sym, ap, ap₂, ◌∙◌, append_assoc, arith, get_or, drop, length}
use Rattle.std.specs.List.{flat_map, range_with_len}
use Rattle.std.proofs.lemmas.List.Concat.{flat_map-append}
use Rattle.std.proofs.lemmas.List.{drop_more, get_or_default}
use Rattle.world_laws.proofs.Members.{map_append}
use Rattle.world_model.specs.World.{capacity}
use Rattle.ent_io.specs.Text.{AppendsPrefix, Leaves, appended}
use Rattle.ent_io.proofs.Appends.{leaves_all, leaves_none, leaves_rest, prefix_left_within}
use Rattle.scenario_record.specs.declared.plan.Step.{Step}
use Rattle.scenario_record.specs.declared.record.Scenario.{Scenario}
use Rattle.run_model.specs.Clock.{Clock, versions}
use Rattle.run_model.specs.Tasks.{Task, frame_steps_of, tasks_of}
use Rattle.run_model.specs.Frames.{Line}
use Rattle.world_text.specs.Lines.{line_text, lines_text}
use Rattle.frame_run.specs.Stages.{Stage, after_step, after_tasks, lines_of_step, lines_of_tasks, no_files}
use Rattle.frame_run.specs.Doing.{stage_after, task_in, tasks_of_step, tasks_of_steps, text_of}

module _ (clock : Clock) (capacity : List ℕ → ℕ) (trace : Bool) where
  after_append : (ts us : List Task) (g : Stage) → after_tasks clock capacity trace (ts ++ us) g ≡ after_tasks clock capacity trace us (after_tasks clock capacity trace ts g)
  after_append [] us g = refl
  after_append (t ∷ ts) us g = after_append ts us (after_step clock capacity trace t.frame t.step g)

  lines_append : (ts us : List Task) (g : Stage)
      → lines_of_tasks clock capacity trace (ts ++ us) g ≡ lines_of_tasks clock capacity trace ts g ++ lines_of_tasks clock capacity trace us (after_tasks clock capacity trace ts g)
  lines_append [] us g = refl
  lines_append (t ∷ ts) us g =
      let next = after_step clock capacity trace t.frame t.step g in
      ap (λ (ls : List Line). lines_of_step clock capacity trace t.frame t.step g ++ ls) (lines_append ts us next)
      ∙ sym (append_assoc (lines_of_step clock capacity trace t.frame t.step g) (lines_of_tasks clock capacity trace ts next) (lines_of_tasks clock capacity trace us (after_tasks clock capacity trace ts next)))

-- The tasks done so far lead from the first stage to the present one; those that are left lead on, and their text is left to write.
pub record IsUnderway (s : Scenario) (trace : Bool) (whole left : List Task) (first now : Stage) (old new : Option (List ℕ)) : Type 0 where
  pub stage : stage_after s trace left now ≡ stage_after s trace whole first
  pub text : Leaves (text_of s trace whole first) (text_of s trace left now) old new

module _ (s : Scenario) (trace : Bool) where
  text_append : (ts us : List Task) (g : Stage) → text_of s trace (ts ++ us) g ≡ text_of s trace ts g ++ text_of s trace us (stage_after s trace ts g)
  text_append ts us g =
      ap (λ (ls : List Line). lines_text ls) (lines_append versions (capacity s.registry) trace ts us g)
      ∙ flat_map-append line_text (lines_of_tasks versions (capacity s.registry) trace ts g) (lines_of_tasks versions (capacity s.registry) trace us (stage_after s trace ts g))

  pub begins : (whole : List Task) (g : Stage) (text : Option (List ℕ)) → IsUnderway s trace whole whole g g text text
  begins whole g text = record { stage = refl; text = leaves_all (text_of s trace whole g) text }

  module _ (whole left ts us : List Task) (is : left ≡ ts ++ us) (first now : Stage) (old mid new : Option (List ℕ)) (h : IsUnderway s trace whole left first now old mid) where
    left_text : text_of s trace left now ≡ text_of s trace ts now ++ text_of s trace us (stage_after s trace ts now)
    left_text = ap (λ (l : List Task). text_of s trace l now) is ∙ text_append ts us now

    pub goes_on : (next : Stage) → next ≡ stage_after s trace ts now → new ≡ appended mid (text_of s trace ts now) → IsUnderway s trace whole us first next old new
    goes_on next to text = record {
      stage = ap (stage_after s trace us) to ∙ (sym (ap (λ (l : List Task). stage_after s trace l now) is ∙ after_append versions (capacity s.registry) trace ts us now) ∙ h.stage);
      text = leaves_rest (text_of s trace whole first) (text_of s trace left now) (text_of s trace ts now) (text_of s trace us next) old mid new h.text
          (left_text ∙ ap (λ (g : Stage). text_of s trace ts now ++ text_of s trace us g) (sym to)) text;
    }

    pub stops : AppendsPrefix (text_of s trace ts now) mid new → AppendsPrefix (text_of s trace whole first) old new
    stops prefix =
        prefix_left_within (text_of s trace whole first) (text_of s trace left now) (text_of s trace ts now) (text_of s trace us (stage_after s trace ts now)) old mid new h.text left_text prefix

  pub ends_stage : (whole left : List Task) → left ≡ [] → (first now : Stage) (old new : Option (List ℕ)) → IsUnderway s trace whole left first now old new → now ≡ stage_after s trace whole first
  ends_stage whole left none first now old new h = sym (ap (λ (l : List Task). stage_after s trace l now) none) ∙ h.stage

  pub ends_text : (whole left : List Task) → left ≡ [] → (first now : Stage) (old new : Option (List ℕ)) → IsUnderway s trace whole left first now old new → new ≡ appended old (text_of s trace whole first)
  ends_text whole left none first now old new h =
      leaves_none (text_of s trace whole first) (text_of s trace left now) old new h.text (ap (λ (l : List Task). text_of s trace l now) none)

-- ---- the tasks of a frame

-- those of the steps from this place on
abbrev pub steps_left : Scenario → ℕ → List Step → ℕ → List Task
steps_left s frame steps k = tasks_of_steps s frame (drop k steps)

pub next_step : (s : Scenario) (frame : ℕ) (steps : List Step) (k : ℕ) (step : Step) → k < length steps → step ≡ get_or steps k step
    → steps_left s frame steps k ≡ tasks_of_step s frame step ++ steps_left s frame steps (k + 1)
next_step s frame steps k step below is =
    ap (tasks_of_steps s frame) (drop_more steps k step below ∙ ap (λ (x : Step). x ∷ drop (k + 1) steps) (sym is))
    ∙ map_append (task_in frame) (frame_steps_of no_files s frame step) (flat_map (frame_steps_of no_files s frame) (drop (k + 1) steps))

-- ---- the tasks of all frames

-- those of the frames after the first k
abbrev pub frames_left : Scenario → List Step → ℕ → List Task
frames_left s steps k = flat_map (λ frame. tasks_of_steps s frame steps) (range_with_len (1 + k) (s.frames - k))

pub next_frame : (s : Scenario) (steps : List Step) (k : ℕ) → k < s.frames → frames_left s steps k ≡ tasks_of_steps s (k + 1) steps ++ frames_left s steps (k + 1)
next_frame s steps k below =
    ap (λ (n : ℕ). flat_map (λ frame. tasks_of_steps s frame steps) (range_with_len (1 + k) n)) (let more : s.frames - k ≡ suc (s.frames - (k + 1)) = omega arith in more)
    ∙ ap₂ (λ (n m : ℕ). tasks_of_steps s n steps ++ flat_map (λ frame. tasks_of_steps s frame steps) (range_with_len m (s.frames - (k + 1)))) (let e : 1 + k ≡ k + 1 = omega arith in e) (let e : (1 + k) + 1 ≡ 1 + (k + 1) = omega arith in e)

pub no_frame : (s : Scenario) (steps : List Step) (k : ℕ) → s.frames - k ≡ 0 → frames_left s steps k ≡ []
no_frame s steps k none = ap (λ (n : ℕ). flat_map (λ frame. tasks_of_steps s frame steps) (range_with_len (1 + k) n)) none

pub all_frames : (s : Scenario) (steps : List Step) → frames_left s steps 0 ≡ tasks_of no_files s steps
all_frames s steps = ap (λ (n : ℕ). flat_map (λ frame. tasks_of_steps s frame steps) (range_with_len 1 n)) (let whole : s.frames - 0 ≡ s.frames = omega arith in whole)

-- a step that is found with one default is found with any
pub step_at : (steps : List Step) (k : ℕ) (d step : Step) → k < length steps → get_or steps k d ≡ step → step ≡ get_or steps k step
step_at steps k d step below is = sym is ∙ get_or_default steps k d step below
