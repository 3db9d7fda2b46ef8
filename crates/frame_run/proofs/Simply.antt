-- The tasks of a scenario that records nothing and loads nothing.
use Rattle.std.proofs.Common.{◌≡◌, ℕ, ◌+◌, inl, inr, nat_eq, Bool, true, false, if◌then◌else◌, List, [], ◌∷◌, ◌++◌, map, Option, Some, None, refl, sym, ap, ap₂, ◌∙◌, slice_get, zero, suc}
use Rattle.std.specs.List.{flat_map, range_with_len}
use Rattle.ent_types.specs.declared.type_info.TypeInfo.{TypeInfo}
use Rattle.world_model.specs.Members.{In}
use Rattle.scenario_record.specs.declared.plan.Step.{Step}
use Rattle.scenario_record.specs.declared.plan.Step.TheVariants.{Events, Play, Run}
use Rattle.scenario_record.specs.declared.record.EventAct.{EventAct}
use Rattle.scenario_record.specs.declared.record.EventAct.TheVariants.{Operate, Load, Unload}
use Rattle.scenario_record.specs.declared.record.EventEntry.{EventEntry}
use Rattle.scenario_record.specs.declared.record.Scenario.{Scenario}
use Rattle.scenario_record.specs.declared.record.SystemEntry.{SystemEntry}
use Rattle.run_model.specs.Loads.{SceneFile}
use Rattle.run_model.specs.Tasks.{FrameEvent, Operates, Loads, Unloads, FrameStep, DoesEvents, Plays, Runs, Task, frame_event_of, frame_events_from, runs_in, run_step, frame_steps_of, frame_tasks, tasks_of}
use Rattle.frame_run.specs.Simple.{IsOperation, IsSimple}

-- each event is an operation
abbrev pub AreOperations : List FrameEvent → Type 0
AreOperations [] = Unit {0}
AreOperations (Operates k operation ∷ es) = AreOperations es
AreOperations (Loads file name delay ∷ es) = ⊥
AreOperations (Unloads name ∷ es) = ⊥

abbrev pub IsSimpleStep : FrameStep → Type 0
IsSimpleStep (DoesEvents events) = AreOperations events
IsSimpleStep (Plays point) = Unit {0}
IsSimpleStep (Runs n s) = s.command ≡ []

abbrev pub AreSimple : List Task → Type 0
AreSimple [] = Unit {0}
AreSimple (t ∷ ts) = IsSimpleStep t.step × AreSimple ts

simple_append : (ts us : List Task) → AreSimple ts → AreSimple us → AreSimple (ts ++ us)
simple_append [] us h k = k
simple_append (t ∷ ts) us h k = (h.0, simple_append ts us h.1 k)

-- what is found at a place is a member
pub got_in : {A : Type 0} (xs : List A) (n : ℕ) (x : A) → slice_get xs n ≡ Some x → In x xs
got_in [] n x e = cc
got_in (y ∷ ys) zero x e = let same : y ≡ x = cc in inl (sym same)
got_in (y ∷ ys) (suc n) x e = inr (got_in ys n x e)

operations_among : (files : List ℕ → SceneFile) (registry : List TypeInfo) (frame k : ℕ) (es : List EventEntry) → ((e : EventEntry) → In e es → IsOperation e.act)
    → AreOperations (frame_events_from files registry frame k es)
operations_among files registry frame k [] h = tt
operations_among files registry frame k (e ∷ es) h = by (nat_eq e.frame frame) e.act (h e (inl refl)) (operations_among files registry frame (k + 1) es (λ x i. h x (inr i)))
  where
    by : (b : Bool) (act : EventAct) → IsOperation act → AreOperations (frame_events_from files registry frame (k + 1) es)
        → AreOperations ((if b then frame_event_of files registry frame k act ∷ [] else []) ++ frame_events_from files registry frame (k + 1) es)
    by false act is rest = rest
    by true (Operate act) is rest = rest
    by true (Load file label delay) is rest = absurd is
    by true (Unload label) is rest = absurd is

module _ (files : List ℕ → SceneFile) (s : Scenario) (simple : IsSimple s) (frame : ℕ) where
  simple_steps : (steps : List Step) → AreSimple (frame_tasks files s frame steps)
  simple_steps [] = tt
  simple_steps (Events ∷ steps) = (operations_among files s.registry frame 0 s.event simple.events, simple_steps steps)
  simple_steps (Play point ∷ steps) = (tt, simple_steps steps)
  simple_steps (Run n ∷ steps) = by (slice_get s.system n) refl (simple_steps steps)
    where
      by : (o : Option SystemEntry) → slice_get s.system n ≡ o → AreSimple (frame_tasks files s frame steps)
          → AreSimple (map (λ step. record { frame = frame; step = step }) (run_step files s frame n o ++ flat_map (frame_steps_of files s frame) steps))
      by None e rest = rest
      by (Some y) e rest = on (runs_in frame y)
        where
          on : (b : Bool) → AreSimple (map (λ step. record { frame = frame; step = step }) ((if b then Runs n y ∷ [] else []) ++ flat_map (frame_steps_of files s frame) steps))
          on false = rest
          on true = (simple.commands y (got_in s.system n y e), rest)

-- all tasks of the run are simple
pub run_simple : (files : List ℕ → SceneFile) (s : Scenario) → IsSimple s → (steps : List Step) → AreSimple (tasks_of files s steps)
run_simple files s simple steps = go (range_with_len 1 s.frames)
  where
    go : (frames : List ℕ) → AreSimple (flat_map (λ frame. frame_tasks files s frame steps) frames)
    go [] = tt
    go (frame ∷ frames) = simple_append (frame_tasks files s frame steps) (flat_map (λ f. frame_tasks files s f steps) frames) (simple_steps files s simple frame steps) (go frames)
