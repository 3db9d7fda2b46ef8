-- The run of a frame by its parts, with the systems of each phase side by side, is its run step by step.
use Rattle.std.proofs.Common.{◌≡◌, ℕ, ◌⊎◌, inl, inr, Bool, true, false, if◌then◌else◌, List, [], ◌∷◌, ◌++◌, map, Option, Some, None, refl, sym, ap, ap₂, ◌∙◌, subst, append_assoc, slice_get}
use Rattle.std.specs.List.{flat_map, range_with_len}
use Rattle.std.proofs.lemmas.List.{append-nil}
use Rattle.world_model.specs.Members.{In, AreDistinct}
use Rattle.world_laws.proofs.Members.{map_append}
use Rattle.scenario_record.specs.declared.plan.Step.{Step}
use Rattle.scenario_record.specs.declared.plan.Step.TheVariants.{Events, Play, Run}
use Rattle.scenario_record.specs.declared.record.Scenario.{Scenario}
use Rattle.scenario_record.specs.declared.record.SystemEntry.{SystemEntry}
use Rattle.run_model.specs.Clock.{Clock}
use Rattle.run_model.specs.Loads.{SceneFile}
use Rattle.run_model.specs.Tasks.{FrameStep, DoesEvents, Plays, Runs, Task, frame_events_from, runs_in, run_step, frame_steps_of, frame_tasks}
use Rattle.run_model.specs.Frames.{Line, State, Course, Goes, Stops, started, step_done, course_after, course_after_all, end_of, end_of_run}
use Rattle.run_model.specs.Phases.{conflicts, phases_by, Turn, AreApart}
use Rattle.run_model.specs.PhaseSteps.{Numbered, number_of, tasks_of_phase, turns_of, after_phase}
use Rattle.run_model.specs.FrameParts.{FramePart, EventsPart, PointPart, PhasePart, parts_from, do_conflict, conflict_at, does_run, runs_at, frame_parts, numbered, systems_at, system_numbers, part_done, course_after_parts, course_after_frames, end_by_phases}
use Rattle.run_laws.specs.Lawful.{OnGoes}
use Rattle.run_laws.proofs.Grouping.{AreFreeOf, phases_free, whole_by, conflicts_turned}
use Rattle.run_laws.proofs.PhaseStep.{phase_steps, outputs_keep_types}
use Rattle.run_laws.proofs.Steady.{IsAfter, task_steady, spawned_types}
use Rattle.run_laws.proofs.Bits.{distinct_right}

-- ---- distinct numbers

distinct_left : (xs ys : List ℕ) → AreDistinct (xs ++ ys) → AreDistinct xs
distinct_left [] ys h = tt
distinct_left (x ∷ xs) ys h = ((λ i. h.0 (left x xs ys i)), distinct_left xs ys h.1)
  where
    left : (t : ℕ) (xs ys : List ℕ) → In t xs → In t (xs ++ ys)
    left t (u ∷ us) ys (inl e) = inl e
    left t (u ∷ us) ys (inr i) = inr (left t us ys i)
    left t [] ys i = absurd i

distinct_without : (xs : List ℕ) (n : ℕ) (ys : List ℕ) → AreDistinct (xs ++ n ∷ ys) → AreDistinct (xs ++ ys)
distinct_without [] n ys h = h.1
distinct_without (x ∷ xs) n ys h = ((λ i. h.0 (more x xs i)), distinct_without xs n ys h.1)
  where
    more : (t : ℕ) (xs : List ℕ) → In t (xs ++ ys) → In t (xs ++ n ∷ ys)
    more t [] i = inr i
    more t (u ∷ us) (inl e) = inl e
    more t (u ∷ us) (inr i) = inr (more t us i)

distinct_part : (qs : List (List ℕ)) (q : List ℕ) → In q qs → AreDistinct (flat_map (λ p. p) qs) → AreDistinct q
distinct_part (p ∷ qs) q (inl e) h = subst AreDistinct (sym e) (distinct_left p (flat_map (λ p. p) qs) h)
distinct_part (p ∷ qs) q (inr i) h = distinct_part qs q i (distinct_right p (flat_map (λ p. p) qs) h)
distinct_part [] q i h = absurd i

module _ (clock : Clock) (capacity : List ℕ → ℕ) (trace : Bool) (files : List ℕ → SceneFile) (s : Scenario) (frame : ℕ) where
  abbrev by_parts : List FramePart → Course → Course
  by_parts parts course = course_after_parts clock capacity trace files s frame parts course

  abbrev by_steps : List Task → Course → Course
  by_steps tasks course = course_after_all clock capacity trace tasks course

  abbrev to_task : FrameStep → Task
  to_task d = record { frame = frame; step = d }

  -- the tasks of the systems with these numbers
  abbrev tasks_at : List ℕ → List Task
  tasks_at ns = tasks_of_phase frame (systems_at s ns)

  abbrev IsOf : State → Type 0
  IsOf st = st.world.registry ≡ s.registry

  -- ---- the systems of a phase

  abbrev turns_at : State → List Numbered → List Turn
  turns_at st ss = turns_of clock capacity trace st ss

  in_turns : (st : State) (k : Turn) (ns : List ℕ) → In k (turns_at st (systems_at s ns)) → (m : ℕ) × In m ns × (slice_get s.system m ≡ Some k.system)
  in_turns st k [] i = absurd i
  in_turns st k (n ∷ ns) i = by (slice_get s.system n) refl i (in_turns st k ns)
    where
      later : (m : ℕ) × In m ns × (slice_get s.system m ≡ Some k.system) → (m : ℕ) × In m (n ∷ ns) × (slice_get s.system m ≡ Some k.system)
      later (m, j, e) = (m, inr j, e)

      by : (o : Option SystemEntry) → slice_get s.system n ≡ o → In k (turns_at st (numbered n o ++ systems_at s ns))
          → (In k (turns_at st (systems_at s ns)) → (m : ℕ) × In m ns × (slice_get s.system m ≡ Some k.system))
          → (m : ℕ) × In m (n ∷ ns) × (slice_get s.system m ≡ Some k.system)
      by None e j rest = later (rest j)
      by (Some y) e (inl h) rest = (n, inl refl, e ∙ ap (λ (t : Turn). Some t.system) (sym h))
      by (Some y) e (inr j) rest = later (rest j)

  free_turn : (n : ℕ) (y : SystemEntry) → slice_get s.system n ≡ Some y → (k : Turn) (m : ℕ) → slice_get s.system m ≡ Some k.system
      → conflict_at s m n ≡ false → conflicts s.registry y k.system ≡ false
  free_turn n y e k m is h = conflicts_turned s.registry y k.system ∙ (sym (ap₂ (do_conflict s.registry) is e) ∙ h)

  apart_at : (st : State) (q : List ℕ) → AreFreeOf (conflict_at s) q → AreApart s.registry (turns_at st (systems_at s q))
  apart_at st [] a = tt
  apart_at st (n ∷ ns) a = by (slice_get s.system n) refl (apart_at st ns a.1)
    where
      by : (o : Option SystemEntry) → slice_get s.system n ≡ o → AreApart s.registry (turns_at st (systems_at s ns)) → AreApart s.registry (turns_at st (numbered n o ++ systems_at s ns))
      by None e rest = rest
      by (Some y) e rest = ((λ k i. let (m, j, is) = in_turns st k ns i in free_turn n y e k m is (a.0 m j)), rest)

  in_numbers : (m : ℕ) (ns : List ℕ) → In m (map number_of (systems_at s ns)) → In m ns
  in_numbers m [] i = absurd i
  in_numbers m (n ∷ ns) i = by (slice_get s.system n) i (in_numbers m ns)
    where
      by : (o : Option SystemEntry) → In m (map number_of (numbered n o ++ systems_at s ns)) → (In m (map number_of (systems_at s ns)) → In m ns) → In m (n ∷ ns)
      by None j rest = inr (rest j)
      by (Some y) (inl e) rest = inl e
      by (Some y) (inr j) rest = inr (rest j)

  distinct_at : (ns : List ℕ) → AreDistinct ns → AreDistinct (map number_of (systems_at s ns))
  distinct_at [] h = tt
  distinct_at (n ∷ ns) h = by (slice_get s.system n) (distinct_at ns h.1)
    where
      by : (o : Option SystemEntry) → AreDistinct (map number_of (systems_at s ns)) → AreDistinct (map number_of (numbered n o ++ systems_at s ns))
      by None rest = rest
      by (Some y) rest = ((λ i. h.0 (in_numbers n ns i)), rest)

  -- ---- phases one after another

  abbrev after_phases : List (List ℕ) → State → State
  after_phases [] st = st
  after_phases (q ∷ qs) st = after_phases qs (after_phase clock capacity trace frame (systems_at s q) st)

  phase_types : (ss : List Numbered) (st : State) → IsOf st → IsOf (after_phase clock capacity trace frame ss st)
  phase_types ss st h = outputs_keep_types clock capacity trace frame ss st ∙ h

  phases_types : (qs : List (List ℕ)) (st : State) → IsOf st → IsOf (after_phases qs st)
  phases_types [] st h = h
  phases_types (q ∷ qs) st h = phases_types qs (after_phase clock capacity trace frame (systems_at s q) st) (phase_types (systems_at s q) st h)

  parts_done : (qs : List (List ℕ)) (rest : List FramePart) (st : State) → by_parts (map PhasePart qs ++ rest) (Goes st) ≡ by_parts rest (Goes (after_phases qs st))
  parts_done [] rest st = refl
  parts_done (q ∷ qs) rest st = parts_done qs rest (after_phase clock capacity trace frame (systems_at s q) st)

  steps_append : (ts us : List Task) (course : Course) → by_steps (ts ++ us) course ≡ by_steps us (by_steps ts course)
  steps_append [] us course = refl
  steps_append (t ∷ ts) us (Goes st) = steps_append ts us (course_after clock capacity trace st t)
  steps_append (t ∷ ts) us (Stops lines) = sym (stops us)
    where
      stops : (us : List Task) → by_steps us (Stops lines) ≡ Stops lines
      stops [] = refl
      stops (u ∷ us) = refl

  systems_append : (ns ms : List ℕ) → systems_at s (ns ++ ms) ≡ systems_at s ns ++ systems_at s ms
  systems_append [] ms = refl
  systems_append (n ∷ ns) ms =
      ap (λ ss. numbered n (slice_get s.system n) ++ ss) (systems_append ns ms)
      ∙ sym (append_assoc (numbered n (slice_get s.system n)) (systems_at s ns) (systems_at s ms))

  tasks_append : (ns ms : List ℕ) → tasks_at (ns ++ ms) ≡ tasks_at ns ++ tasks_at ms
  tasks_append ns ms =
      ap (tasks_of_phase frame) (systems_append ns ms)
      ∙ map_append (λ (y : Numbered). to_task (Runs y.number y.system)) (systems_at s ns) (systems_at s ms)

  steps_done : (qs : List (List ℕ)) → ((q : List ℕ) → In q qs → AreFreeOf (conflict_at s) q) → ((q : List ℕ) → In q qs → AreDistinct q)
      → (st : State) → IsOf st → by_steps (tasks_at (flat_map (λ p. p) qs)) (Goes st) ≡ Goes (after_phases qs st)
  steps_done [] free distinct st h = refl
  steps_done (q ∷ qs) free distinct st h =
      ap (λ ts. by_steps ts (Goes st)) (tasks_append q (flat_map (λ p. p) qs))
      ∙ (steps_append (tasks_at q) (tasks_at (flat_map (λ p. p) qs)) (Goes st)
      ∙ (ap (by_steps (tasks_at (flat_map (λ p. p) qs)))
      (phase_steps clock capacity trace frame (systems_at s q) (distinct_at q (distinct q (inl refl))) st
      (subst (λ r. AreApart r (turns_at st (systems_at s q))) (sym h) (apart_at st q (free q (inl refl)))))
      ∙ steps_done qs (λ p i. free p (inr i)) (λ p i. distinct p (inr i)) (after_phase clock capacity trace frame (systems_at s q) st) (phase_types (systems_at s q) st h)))

  -- the phases of systems, and then the rest
  abbrev groups : List ℕ → List (List ℕ)
  groups systems = phases_by (conflict_at s) systems

  systems_done : (systems : List ℕ) → AreDistinct systems → (st : State) → IsOf st → by_steps (tasks_at systems) (Goes st) ≡ Goes (after_phases (groups systems) st)
  systems_done systems distinct st h =
      ap (λ ns. by_steps (tasks_at ns) (Goes st)) (sym (whole_by (conflict_at s) systems))
      ∙ steps_done (groups systems) (phases_free (conflict_at s) systems) (λ q i. distinct_part (groups systems) q i (subst AreDistinct (sym (whole_by (conflict_at s) systems)) distinct)) st h

  both_stop : (parts : List FramePart) (tasks : List Task) (lines : List Line) → by_parts parts (Stops lines) ≡ by_steps tasks (Stops lines)
  both_stop [] [] lines = refl
  both_stop [] (t ∷ ts) lines = refl
  both_stop (p ∷ ps) [] lines = refl
  both_stop (p ∷ ps) (t ∷ ts) lines = refl

  -- ---- the steps of a frame

  abbrev parts_with : List ℕ → List Step → List FramePart
  parts_with systems steps = parts_from (conflict_at s) (runs_at s frame) systems steps

  abbrev tasks_with : List ℕ → List Step → List Task
  tasks_with systems steps = tasks_at systems ++ frame_tasks files s frame steps

  abbrev Folds : List ℕ → List Step → Type 0
  Folds systems steps = (st : State) → IsOf st → by_parts (parts_with systems steps) (Goes st) ≡ by_steps (tasks_with systems steps) (Goes st)

  -- a step that ends a phase
  closed : (systems : List ℕ) (p : FramePart) (d : FrameStep) (steps : List Step) → AreDistinct systems
      → ((st : State) → part_done clock capacity trace files s frame st p ≡ step_done clock capacity trace frame st d) → Folds [] steps
      → (st : State) → IsOf st
      → by_parts (map PhasePart (groups systems) ++ p ∷ parts_with [] steps) (Goes st)
      ≡ by_steps (tasks_at systems ++ to_task d ∷ frame_tasks files s frame steps) (Goes st)
  unfolding course_after
  closed systems p d steps distinct does rest st h =
      parts_done (groups systems) (p ∷ parts_with [] steps) st
      ∙ (ap (by_parts (parts_with [] steps)) (does (after_phases (groups systems) st))
      ∙ (on (step_done clock capacity trace frame (after_phases (groups systems) st) d)
      (task_steady capacity clock trace (after_phases (groups systems) st) (to_task d))
      ∙ sym (steps_append (tasks_at systems) (to_task d ∷ frame_tasks files s frame steps) (Goes st)
      ∙ ap (by_steps (to_task d ∷ frame_tasks files s frame steps)) (systems_done systems distinct st h))))
    where
      on : (course : Course) → IsAfter capacity clock trace (record ((after_phases (groups systems) st).world) { moment = clock.next (after_phases (groups systems) st).world.moment }) course
          → by_parts (parts_with [] steps) course ≡ by_steps (frame_tasks files s frame steps) course
      on (Goes next) k = rest next (k.types ∙ phases_types (groups systems) st h)
      on (Stops lines) k = both_stop (parts_with [] steps) (frame_tasks files s frame steps) lines

  folds : (steps : List Step) (systems : List ℕ) → AreDistinct (systems ++ system_numbers steps) → Folds systems steps
  folds [] systems distinct st h =
      ap (λ ps. by_parts ps (Goes st)) (sym (append-nil (map PhasePart (groups systems))))
      ∙ (parts_done (groups systems) [] st
      ∙ (sym (systems_done systems (distinct_left systems [] distinct) st h)
      ∙ ap (λ ts. by_steps ts (Goes st)) (sym (append-nil (tasks_at systems)))))
  folds (Events ∷ steps) systems distinct st h =
      closed systems EventsPart (DoesEvents (frame_events_from files s.registry frame 0 s.event)) steps (distinct_left systems (system_numbers steps) distinct)
      (λ st. refl) (folds steps [] (distinct_right systems (system_numbers steps) distinct)) st h
  folds (Play point ∷ steps) systems distinct st h =
      closed systems (PointPart point) (Plays point) steps (distinct_left systems (system_numbers steps) distinct)
      (λ st. refl) (folds steps [] (distinct_right systems (system_numbers steps) distinct)) st h
  folds (Run n ∷ steps) systems distinct st h =
      by (slice_get s.system n) refl
      (folds steps (systems ++ n ∷ []) (subst AreDistinct (sym (append_assoc systems (n ∷ []) (system_numbers steps))) distinct) st h)
      (folds steps systems (distinct_without systems n (system_numbers steps) distinct) st h)
    where
      -- a system that runs
      runs : (y : SystemEntry) → slice_get s.system n ≡ Some y
          → by_parts (parts_with (systems ++ n ∷ []) steps) (Goes st) ≡ by_steps (tasks_with (systems ++ n ∷ []) steps) (Goes st)
          → by_parts (parts_with (systems ++ n ∷ []) steps) (Goes st) ≡ by_steps (tasks_at systems ++ to_task (Runs n y) ∷ frame_tasks files s frame steps) (Goes st)
      runs y e more =
          more
          ∙ ap (λ ts. by_steps (ts ++ frame_tasks files s frame steps) (Goes st)) (tasks_append systems (n ∷ []) ∙ ap (λ (o : Option SystemEntry). tasks_at systems ++ tasks_of_phase frame (numbered n o ++ [])) e)
          ∙ ap (λ ts. by_steps ts (Goes st)) (append_assoc (tasks_at systems) (to_task (Runs n y) ∷ []) (frame_tasks files s frame steps))

      on : (y : SystemEntry) → slice_get s.system n ≡ Some y
          → by_parts (parts_with (systems ++ n ∷ []) steps) (Goes st) ≡ by_steps (tasks_with (systems ++ n ∷ []) steps) (Goes st)
          → by_parts (parts_with systems steps) (Goes st) ≡ by_steps (tasks_with systems steps) (Goes st)
          → (b : Bool) → by_parts (parts_with (if b then systems ++ n ∷ [] else systems) steps) (Goes st)
          ≡ by_steps (tasks_at systems ++ map to_task ((if b then Runs n y ∷ [] else []) ++ flat_map (frame_steps_of files s frame) steps)) (Goes st)
      on y e more rest true = runs y e more
      on y e more rest false = rest

      by : (o : Option SystemEntry) → slice_get s.system n ≡ o
          → by_parts (parts_with (systems ++ n ∷ []) steps) (Goes st) ≡ by_steps (tasks_with (systems ++ n ∷ []) steps) (Goes st)
          → by_parts (parts_with systems steps) (Goes st) ≡ by_steps (tasks_with systems steps) (Goes st)
          → by_parts (parts_with (if does_run frame o then systems ++ n ∷ [] else systems) steps) (Goes st)
          ≡ by_steps (tasks_at systems ++ map to_task (run_step files s frame n o ++ flat_map (frame_steps_of files s frame) steps)) (Goes st)
      by None e more rest = rest
      by (Some y) e more rest = on y e more rest (runs_in frame y)

-- ---- all frames

module _ (clock : Clock) (capacity : List ℕ → ℕ) (trace : Bool) (files : List ℕ → SceneFile) (s : Scenario) (steps : List Step) (distinct : AreDistinct (system_numbers steps)) where
  -- the tasks of a frame leave the types of the world
  tasks_types : (ts : List Task) (st : State) → OnGoes (λ (u : State). u.world.registry ≡ st.world.registry) (course_after_all clock capacity trace ts (Goes st))
  tasks_types [] st = refl
  tasks_types (t ∷ ts) st = on (course_after clock capacity trace st t) (task_steady capacity clock trace st t) (tasks_types ts)
    where
      further : (next : State) (course : Course) → next.world.registry ≡ st.world.registry
          → OnGoes (λ (u : State). u.world.registry ≡ next.world.registry) course → OnGoes (λ (u : State). u.world.registry ≡ st.world.registry) course
      further next (Goes u) e k = k ∙ e
      further next (Stops lines) e k = tt

      stopped : (ts : List Task) (lines : List Line) → OnGoes (λ (u : State). u.world.registry ≡ st.world.registry) (course_after_all clock capacity trace ts (Stops lines))
      stopped [] lines = tt
      stopped (t ∷ ts) lines = tt

      on : (course : Course) → IsAfter capacity clock trace (record (st.world) { moment = clock.next st.world.moment }) course
          → ((next : State) → OnGoes (λ (u : State). u.world.registry ≡ next.world.registry) (course_after_all clock capacity trace ts (Goes next)))
          → OnGoes (λ (u : State). u.world.registry ≡ st.world.registry) (course_after_all clock capacity trace ts course)
      on (Goes next) k rest = further next (course_after_all clock capacity trace ts (Goes next)) k.types (rest next)
      on (Stops lines) k rest = stopped ts lines

  frames_fold : (frames : List ℕ) (st : State) → st.world.registry ≡ s.registry
      → course_after_frames clock capacity trace files s steps frames (Goes st)
      ≡ course_after_all clock capacity trace (flat_map (λ frame. frame_tasks files s frame steps) frames) (Goes st)
  unfolding frame_parts
  frames_fold [] st h = refl
  frames_fold (frame ∷ frames) st h =
      ap (course_after_frames clock capacity trace files s steps frames) (folds clock capacity trace files s frame steps [] distinct st h)
      ∙ (on (course_after_all clock capacity trace (frame_tasks files s frame steps) (Goes st)) (tasks_types (frame_tasks files s frame steps) st) (frames_fold frames)
      ∙ sym (steps_append clock capacity trace files s frame (frame_tasks files s frame steps) (flat_map (λ frame. frame_tasks files s frame steps) frames) (Goes st)))
    where
      stop : (f : ℕ) (ps : List FramePart) (lines : List Line) → course_after_parts clock capacity trace files s f ps (Stops lines) ≡ Stops lines
      stop f [] lines = refl
      stop f (p ∷ ps) lines = refl

      stops : (frames : List ℕ) (lines : List Line) → course_after_frames clock capacity trace files s steps frames (Stops lines) ≡ Stops lines
      stops [] lines = refl
      stops (f ∷ fs) lines = ap (course_after_frames clock capacity trace files s steps fs) (stop f (frame_parts s f steps) lines) ∙ stops fs lines

      stay : (ts : List Task) (lines : List Line) → course_after_all clock capacity trace ts (Stops lines) ≡ Stops lines
      stay [] lines = refl
      stay (t ∷ ts) lines = refl

      on : (course : Course) → OnGoes (λ (u : State). u.world.registry ≡ st.world.registry) course
          → ((next : State) → next.world.registry ≡ s.registry → course_after_frames clock capacity trace files s steps frames (Goes next)
          ≡ course_after_all clock capacity trace (flat_map (λ frame. frame_tasks files s frame steps) frames) (Goes next))
          → course_after_frames clock capacity trace files s steps frames course
          ≡ course_after_all clock capacity trace (flat_map (λ frame. frame_tasks files s frame steps) frames) course
      on (Goes next) k rest = rest next (k ∙ h)
      on (Stops lines) k rest = stops frames lines ∙ sym (stay (flat_map (λ frame. frame_tasks files s frame steps) frames) lines)

  pub phases_are_run : (moment : ℕ) → end_by_phases clock capacity trace files s steps moment ≡ end_of_run clock capacity trace files s steps moment
  unfolding end_by_phases end_of_run
  phases_are_run moment = ap end_of (frames_fold (range_with_len 1 s.frames) (started capacity s moment) (spawned_types capacity s moment))
