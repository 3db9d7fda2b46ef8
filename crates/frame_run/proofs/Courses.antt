-- A simple task goes on to its stage, and appends its lines.
use Rattle.std.proofs.Common.{◌≡◌, ℕ, Bool, List, [], ◌∷◌, ◌++◌, map, fold, Option, refl, sym, ap, ap₂, ◌∙◌, append_assoc}
use Rattle.std.specs.List.{flat_map}
use Rattle.std.proofs.lemmas.List.{append-nil}
use Rattle.world_model.specs.World.{World}
use Rattle.world_model.specs.Found.{Found}
use Rattle.expr_eval.specs.Values.{OtherRows}
use Rattle.scenario_record.specs.declared.record.SystemEntry.{SystemEntry}
use Rattle.run_model.specs.Clock.{Clock}
use Rattle.run_model.specs.Commands.{Recorded}
use Rattle.run_model.specs.Job.{others_in}
use Rattle.run_model.specs.Run.{Entry, MatchedRow, RunResult, entries_at, recorded_of, matched, run}
use Rattle.run_model.specs.Playback.{done_by}
use Rattle.run_model.specs.Tasks.{FrameEvent, Operates, Loads, Unloads, FrameStep, DoesEvents, Plays, Runs, Task}
use Rattle.run_model.specs.Frames.{Line, Noted, State, Course, Goes, Stops, buffers_of, event_lines, event_done, step_done, course_after, course_after_all, with_run, run_line, trace_lines}
use Rattle.frame_run.specs.Stages.{Stage, state_of, after_event, after_events, lines_of_event, lines_of_events, raised_world, run_of, with_ran, after_step, lines_of_step, after_tasks, lines_of_tasks}
use Rattle.frame_run.proofs.Simply.{AreOperations, IsSimpleStep, AreSimple}

module _ (clock : Clock) (capacity : List ℕ → ℕ) (trace : Bool) (frame : ℕ) where
  events_go : (es : List FrameEvent) → AreOperations es → (g : Stage) (lines : List Line)
      → fold (event_done clock capacity trace frame) (state_of g lines) es
      ≡ state_of (record g { world = after_events capacity frame es g.world }) (lines ++ lines_of_events capacity frame es g.world)
  events_go [] h g lines = ap (state_of g) (sym (append-nil lines))
  events_go (Operates k operation ∷ es) h g lines =
      let next : Stage = record g { world = after_event capacity frame g.world (Operates k operation) } in
      let here = lines_of_event capacity frame g.world (Operates k operation) in
      events_go es h next (lines ++ here)
      ∙ ap (state_of (record g { world = after_events capacity frame es next.world })) (append_assoc lines here (lines_of_events capacity frame es next.world))
  events_go (Loads file name delay ∷ es) h g lines = absurd h
  events_go (Unloads name ∷ es) h g lines = absurd h

-- a system without commands records nothing
pub nothing_recorded : (clock : Clock) (s : SystemEntry) → s.command ≡ [] → (last : Option ℕ) (frame : ℕ) (w : World) → (run clock s last frame w).entries ≡ []
unfolding run
nothing_recorded clock s none last frame w = go (matched clock w.registry s last 0 w.blocks)
  where
    go : (ms : List MatchedRow) → flat_map (λ m. entries_at m (recorded_of w.registry s (others_in w) frame m)) ms ≡ []
    go [] = refl
    go (m ∷ ms) = rw none (go ms)

module _ (clock : Clock) (capacity : List ℕ → ℕ) (trace : Bool) (frame : ℕ) where
  step_goes : (step : FrameStep) → IsSimpleStep step → (g : Stage) (lines : List Line)
      → step_done clock capacity trace frame (state_of g lines) step
      ≡ Goes (state_of (after_step clock capacity trace frame step g) (lines ++ lines_of_step clock capacity trace frame step g))
  step_goes (DoesEvents events) h g lines =
      ap (λ (ls : List Line). Goes (fold (event_done clock capacity trace frame) (state_of (record g { world = raised_world clock capacity trace g.world }) ls) events)) (append-nil lines)
      ∙ ap Goes (events_go clock capacity trace frame events h (record g { world = raised_world clock capacity trace g.world }) lines)
  step_goes (Plays point) h g lines = refl
  step_goes (Runs n s) h g lines =
      let ran = run_of clock capacity trace frame n s g in
      ap (λ (es : List Entry). Goes (let st : State = record {
        world = ran.world;
        lasts = (with_ran clock capacity trace n g ran).lasts;
        waiting = buffers_of n s frame es;
        loads = [];
        lines = lines ++ trace_lines clock capacity trace (run_line clock capacity trace frame s ran);
      } in st)) (nothing_recorded clock s h _ frame g.world)

module _ (clock : Clock) (capacity : List ℕ → ℕ) (trace : Bool) where
  -- simple tasks go on to their stage
  pub tasks_go : (ts : List Task) → AreSimple ts → (g : Stage) (lines : List Line)
      → course_after_all clock capacity trace ts (Goes (state_of g lines))
      ≡ Goes (state_of (after_tasks clock capacity trace ts g) (lines ++ lines_of_tasks clock capacity trace ts g))
  unfolding course_after
  tasks_go [] h g lines = ap (λ (ls : List Line). Goes (state_of g ls)) (sym (append-nil lines))
  tasks_go (t ∷ ts) h g lines =
      let next = after_step clock capacity trace t.frame t.step g in
      let here = lines_of_step clock capacity trace t.frame t.step g in
      ap (course_after_all clock capacity trace ts) (step_goes clock capacity trace t.frame t.step h.0 g lines)
      ∙ (tasks_go ts h.1 next (lines ++ here)
      ∙ ap (λ (ls : List Line). Goes (state_of (after_tasks clock capacity trace ts next) ls)) (append_assoc lines here (lines_of_tasks clock capacity trace ts next)))
