-- A phase as one step of a run: what the state becomes where its systems run side by side.
use Rattle.std.specs.Prelude.{ℕ, Bool, List, [], ◌∷◌, ◌++◌, length, map, slice_set, Some}
use Rattle.scenario_record.specs.declared.record.SystemEntry.{SystemEntry}
use Rattle.run_model.specs.declared.lines.TraceLine.TheVariants.{Run as RunLine}
use Rattle.run_model.specs.Clock.{Clock}
use Rattle.run_model.specs.Tasks.{Task, Runs}
use Rattle.run_model.specs.Frames.{State, with_world, trace_lines, last_run, buffers_of}
use Rattle.run_model.specs.Phases.{Turn, RunOutput, joined, joined_outputs}

-- a system with its number in the scenario
pub record Numbered : Type 0 where
  pub number : ℕ
  pub system : SystemEntry

abbrev pub number_of : Numbered → ℕ
number_of s = s.number

-- the tasks that run them one after another
abbrev pub tasks_of_phase : ℕ → List Numbered → List Task
tasks_of_phase frame ss = map (λ s. record { frame = frame; step = Runs s.number s.system }) ss

module _ (clock : Clock) (capacity : List ℕ → ℕ) (trace : Bool) where
  -- the systems with their last runs
  abbrev pub turns_of : State → List Numbered → List Turn
  turns_of st ss = map (λ s. record { system = s.system; last = last_run clock capacity trace st.lasts s.number }) ss

  -- what a system of a phase leaves besides the world: the moment of its run, its buffers, its line
  abbrev pub with_output : ℕ → ℕ → Numbered → RunOutput → State → State
  with_output frame now s c st = record st {
    lasts = slice_set st.lasts s.number (Some now);
    waiting = st.waiting ++ buffers_of s.number s.system frame c.entries;
    lines = st.lines ++ trace_lines clock capacity trace (RunLine frame s.system.name (clock.version now) c.visits c.passing (length c.entries));
  }

  abbrev pub with_outputs : ℕ → ℕ → List Numbered → List RunOutput → State → State
  with_outputs frame now [] cs st = st
  with_outputs frame now (s ∷ ss) [] st = st
  with_outputs frame now (s ∷ ss) (c ∷ cs) st =
      with_outputs frame (clock.next now) ss cs (with_output frame (clock.next now) s c st)

  -- the state after a phase
  abbrev pub after_phase : ℕ → List Numbered → State → State
  after_phase frame ss st =
      with_outputs frame st.world.moment ss (joined_outputs clock frame st.world st.world.moment (turns_of st ss))
      (with_world st (joined clock frame (turns_of st ss) st.world))
