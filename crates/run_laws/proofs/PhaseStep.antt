-- A phase of systems that don't conflict, as one step of a run, is the steps of its systems one after another.
use Rattle.std.proofs.Common.{◌≡◌, ℕ, zero, suc, inl, inr, Bool, List, [], ◌∷◌, map, Option, Some, None, refl, sym, ap, ap₂, ◌∙◌, slice_set, slice_get, unwrap_or}
use Rattle.world_model.specs.Members.{In, AreDistinct}
use Rattle.run_model.specs.Clock.{Clock}
use Rattle.run_model.specs.Run.{RunResult, run}
use Rattle.run_model.specs.Frames.{State, Goes, with_world, last_run, after_system, course_after, course_after_all}
use Rattle.run_model.specs.Phases.{Turn, AreApart, RunOutput, world_each, outputs_each, joined, joined_outputs}
use Rattle.run_model.specs.PhaseSteps.{Numbered, number_of, tasks_of_phase, turns_of, with_output, with_outputs, after_phase}
use Rattle.run_laws.proofs.Phases.{phase_law, all_free}

-- another place of a list is as before
set_apart : {A : Type 0} (xs : List A) (n m : ℕ) (x : A) → (m ≡ n → ⊥) → slice_get (slice_set xs n x) m ≡ slice_get xs m
set_apart [] n m x h = refl
set_apart (y ∷ ys) zero zero x h = absurd (h refl)
set_apart (y ∷ ys) zero (suc m) x h = refl
set_apart (y ∷ ys) (suc n) zero x h = refl
set_apart (y ∷ ys) (suc n) (suc m) x h = set_apart ys n m x (λ e. h (ap suc e))

module _ (clock : Clock) (capacity : List ℕ → ℕ) (trace : Bool) (frame : ℕ) where
  turns_same : (ss : List Numbered) (n : ℕ) (x : Option ℕ) (st : State) → (In n (map number_of ss) → ⊥)
      → turns_of clock capacity trace (record st { lasts = slice_set st.lasts n x }) ss ≡ turns_of clock capacity trace st ss
  turns_same [] n x st h = refl
  turns_same (s ∷ ss) n x st h =
      ap₂ (λ (t : Turn) ts. t ∷ ts)
      (ap (λ (o : Option (Option ℕ)). (let t : Turn = record { system = s.system; last = unwrap_or o None } in t)) (set_apart st.lasts n s.number x (λ e. h (inl (sym e)))))
      (turns_same ss n x st (λ i. h (inr i)))

  -- one after another, each from the world that the ones before it left
  steps_are : (ss : List Numbered) → AreDistinct (map number_of ss) → (st : State)
      → course_after_all clock capacity trace (tasks_of_phase frame ss) (Goes st)
      ≡ Goes (with_outputs clock capacity trace frame st.world.moment ss (outputs_each clock frame (turns_of clock capacity trace st ss) st.world)
      (with_world st (world_each clock frame (turns_of clock capacity trace st ss) st.world)))
  unfolding course_after run
  steps_are [] h st = refl
  steps_are (s ∷ ss) h st =
      steps_are ss h.1 (after_system clock capacity trace frame s.number s.system st)
      ∙ ap (λ ts. Goes (with_outputs clock capacity trace frame (clock.next st.world.moment) ss (outputs_each clock frame ts (next).world)
      (with_world (after_system clock capacity trace frame s.number s.system st) (world_each clock frame ts (next).world))))
      (turns_same ss s.number (Some (clock.next st.world.moment)) st h.0)
    where
      next : RunResult
      next = run clock s.system (last_run clock capacity trace st.lasts s.number) frame st.world

  -- a phase leaves the types of the world
  outputs_types : (now : ℕ) (ss : List Numbered) (cs : List RunOutput) (st : State) → (with_outputs clock capacity trace frame now ss cs st).world.registry ≡ st.world.registry
  outputs_types now [] cs st = refl
  outputs_types now (s ∷ ss) [] st = refl
  outputs_types now (s ∷ ss) (c ∷ cs) st = outputs_types (clock.next now) ss cs (with_output clock capacity trace frame (clock.next now) s c st)

  pub outputs_keep_types : (ss : List Numbered) (st : State) → (after_phase clock capacity trace frame ss st).world.registry ≡ st.world.registry
  unfolding joined
  outputs_keep_types ss st =
      outputs_types st.world.moment ss (joined_outputs clock frame st.world st.world.moment (turns_of clock capacity trace st ss))
      (with_world st (joined clock frame (turns_of clock capacity trace st ss) st.world))

  pub phase_steps : (ss : List Numbered) → AreDistinct (map number_of ss) → (st : State) → AreApart st.world.registry (turns_of clock capacity trace st ss)
      → course_after_all clock capacity trace (tasks_of_phase frame ss) (Goes st) ≡ Goes (after_phase clock capacity trace frame ss st)
  phase_steps ss h st apart =
      let law = phase_law clock frame st.world (turns_of clock capacity trace st ss) (all_free st.world.registry (turns_of clock capacity trace st ss) apart) in
      steps_are ss h st
      ∙ ap₂ (λ w cs. Goes (with_outputs clock capacity trace frame st.world.moment ss cs (with_world st w))) law.0 law.1
