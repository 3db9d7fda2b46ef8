-- A scenario that loads nothing has the same tasks whatever the files hold.
use Rattle.std.proofs.Common.{◌≡◌, ℕ, ◌+◌, inl, inr, nat_eq, Bool, true, false, if◌then◌else◌, List, [], ◌∷◌, ◌++◌, map, Option, Some, None, refl, ap, ap₂, ◌∙◌, slice_get}
use Rattle.std.specs.List.{flat_map, range_with_len}
use Rattle.ent_types.specs.declared.type_info.TypeInfo.{TypeInfo}
use Rattle.world_model.specs.Members.{In}
use Rattle.scenario_record.specs.declared.plan.Step.{Step}
use Rattle.scenario_record.specs.declared.plan.Step.TheVariants.{Events, Play, Run}
use Rattle.scenario_record.specs.declared.record.EventAct.{EventAct}
use Rattle.scenario_record.specs.declared.record.EventAct.TheVariants.{Operate, Load, Unload}
use Rattle.scenario_record.specs.declared.record.EventEntry.{EventEntry}
use Rattle.scenario_record.specs.declared.record.Scenario.{Scenario}
use Rattle.scenario_record.specs.declared.record.SystemEntry.{SystemEntry}
use Rattle.run_model.specs.Loads.{SceneFile}
use Rattle.run_model.specs.Tasks.{FrameEvent, FrameStep, DoesEvents, Plays, Runs, Task, frame_event_of, frame_events_from, runs_in, run_step, frame_steps_of, frame_tasks, tasks_of}
use Rattle.frame_run.specs.Simple.{IsOperation, IsSimple}

module _ (files others : List ℕ → SceneFile) where
  same_events : (registry : List TypeInfo) (frame k : ℕ) (es : List EventEntry) → ((e : EventEntry) → In e es → IsOperation e.act)
      → frame_events_from files registry frame k es ≡ frame_events_from others registry frame k es
  same_events registry frame k [] h = refl
  same_events registry frame k (e ∷ es) h =
      ap₂ (λ (es us : List FrameEvent). es ++ us) (ap (λ (es : List FrameEvent). if nat_eq e.frame frame then es else []) (by e.act (h e (inl refl)))) (same_events registry frame (k + 1) es (λ x i. h x (inr i)))
    where
      by : (act : EventAct) → IsOperation act → (frame_event_of files registry frame k act ∷ []) ≡ (frame_event_of others registry frame k act ∷ [])
      by (Operate act) is = refl
      by (Load file label delay) is = absurd is
      by (Unload label) is = absurd is

  module _ (s : Scenario) (simple : IsSimple s) where
    same_steps : (frame : ℕ) (steps : List Step) → flat_map (frame_steps_of files s frame) steps ≡ flat_map (frame_steps_of others s frame) steps
    same_steps frame [] = refl
    same_steps frame (Events ∷ steps) = ap₂ (λ (es : List FrameEvent) (ds : List FrameStep). DoesEvents es ∷ ds) (same_events s.registry frame 0 s.event simple.events) (same_steps frame steps)
    same_steps frame (Play point ∷ steps) = ap (λ (ds : List FrameStep). Plays point ∷ ds) (same_steps frame steps)
    same_steps frame (Run n ∷ steps) = by (slice_get s.system n) (same_steps frame steps)
      where
        by : (o : Option SystemEntry) → flat_map (frame_steps_of files s frame) steps ≡ flat_map (frame_steps_of others s frame) steps
            → (run_step files s frame n o ++ flat_map (frame_steps_of files s frame) steps) ≡ (run_step others s frame n o ++ flat_map (frame_steps_of others s frame) steps)
        by None rest = rest
        by (Some y) rest = ap (λ (ds : List FrameStep). (if runs_in frame y then Runs n y ∷ [] else []) ++ ds) rest

    pub same_tasks : (steps : List Step) → tasks_of files s steps ≡ tasks_of others s steps
    same_tasks steps = go (range_with_len 1 s.frames)
      where
        to_task : ℕ → FrameStep → Task
        to_task frame step = record { frame = frame; step = step }

        go : (frames : List ℕ) → flat_map (λ frame. frame_tasks files s frame steps) frames ≡ flat_map (λ frame. frame_tasks others s frame steps) frames
        go [] = refl
        go (frame ∷ frames) = ap₂ (λ (ts us : List Task). ts ++ us) (ap (λ (ds : List FrameStep). map (λ step. (let t : Task = record { frame = frame; step = step } in t)) ds) (same_steps frame steps)) (go frames)
