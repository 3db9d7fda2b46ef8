-- A step of a frame keeps a state lawful, with loads that are pending, scenes that move in and scenes that are unloaded.
use Rattle.std.proofs.Common.{◌≡◌, ℕ, ◌+◌, ◌≤◌, ◌⊎◌, inl, inr, Bool, not, List, [], ◌∷◌, map, filter, fold, length, Option, Some, None, refl, sym, ◌∙◌, subst, arith}
use Rattle.ent_types.specs.declared.limits.TheConstants.{MOST_EVENTS}
use Rattle.ent_types.specs.declared.point.Point.{Point}
use Rattle.ent_types.specs.declared.type_info.TypeInfo.{TypeInfo}
use Rattle.world_model.specs.Members.{In}
use Rattle.world_model.specs.World.{World}
use Rattle.world_model.specs.Lawful.{IsLawful, HasRoomForParts}
use Rattle.world_laws.proofs.Members.{in_append, in_map, in_filter}
use Rattle.scenario_record.specs.declared.record.SystemEntry.{SystemEntry}
use Rattle.scenario_record.specs.Lawful.{same_point}
use Rattle.run_model.specs.Clock.{moments}
use Rattle.run_model.specs.Run.{Entry, run}
use Rattle.run_model.specs.Buffers.{SharedKey, shared_key}
use Rattle.run_model.specs.Loads.{SceneState, due_from, due_arrived, requested, unloaded}
use Rattle.run_model.specs.Tasks.{FrameEvent, Operates, Loads, Unloads, FrameStep, DoesEvents, Plays, Runs, Task}
use Rattle.run_model.specs.Frames.{Buffer, State, Course, Goes, Stops, waits_at, buffer_at, all_points, buffers_of, has_entry, last_run, raised, event_done, after_buffer, unless_shared, after_buffers, after_point, after_system, step_done, course_after, course_after_all, scenes_changed}
use Rattle.run_laws.specs.Suits.{OperationSuits, AllSuit, SystemSuits}
use Rattle.run_laws.specs.Lawful.{IsLawfulState, EventSuits, StepSuits, event_requests, events_requests, step_requests, task_requests, HasFewLoads, OnGoes, IsLawfulWith}
use Rattle.world_laws.proofs.Replaced.{raised_lawful as world_raised}
use Rattle.run_laws.proofs.RunLawful.{run_lawful, run_registry}
use Rattle.run_laws.proofs.PlayLawful.{done_lawful, done_registry, played_lawful, played_registry}
use Rattle.run_laws.proofs.EntriesSuit.{entries_suit}
use Rattle.run_laws.proofs.ScenesLawful.{IsLawfulScenes, all_arrived_lawful, requested_lawful, unloaded_lawful}

-- ---- states

module _ (capacity : List ℕ → ℕ) (fits : HasRoomForParts capacity) (first : ℕ) (trace : Bool) (registry : List TypeInfo) where
  abbrev Lawful : ℕ → State → Type 0
  Lawful count st = IsLawfulWith capacity registry count st

  raised_lawful : (count : ℕ) (st : State) → Lawful count st → Lawful count (raised (moments first) capacity trace st)
  raised_lawful count st h = record {
    lawful = record { world = world_raised capacity st.world h.lawful.world; registry_is = h.lawful.registry_is; waiting = h.lawful.waiting; loads = h.lawful.loads };
    count_is = h.count_is;
  }

  -- the loads and the world change together
  scenes_lawful : (count more : ℕ) (st : State) (change : SceneState → SceneState)
      → ((c : SceneState) → IsLawfulScenes capacity registry count c → IsLawfulScenes capacity registry more (change c)) → Lawful count st → Lawful more (scenes_changed st change)
  scenes_lawful count more st change keeps h =
      let g = keeps (record { world = st.world; loads = st.loads; lines = [] })
      (record { world = h.lawful.world; registry_is = h.lawful.registry_is; loads = h.lawful.loads; count_is = h.count_is }) in
      record {
        lawful = record { world = g.world; registry_is = g.registry_is; waiting = h.lawful.waiting; loads = g.loads };
        count_is = g.count_is;
      }

  -- ---- events

  event_lawful : (frame count : ℕ) (st : State) (x : FrameEvent) → EventSuits registry x → count + event_requests x ≤ MOST_EVENTS → Lawful count st
      → Lawful (count + event_requests x) (event_done (moments first) capacity trace frame st x)
  event_lawful frame count st (Operates k operation) suits few h = record {
    lawful = record {
      world = done_lawful capacity fits st.world operation (subst (λ r. OperationSuits r operation) (sym h.lawful.registry_is) suits) h.lawful.world;
      registry_is = done_registry capacity fits st.world operation ∙ h.lawful.registry_is;
      waiting = h.lawful.waiting;
      loads = h.lawful.loads;
    };
    count_is = h.count_is ∙ same;
  }
    where
      same : count ≡ count + 0
      same = omega arith
  event_lawful frame count st (Loads file name delay) suits few h =
      scenes_lawful count (count + 1) st (requested capacity frame file name delay) (λ c g. requested_lawful capacity fits registry frame count file name delay c suits few g) h
  event_lawful frame count st (Unloads name) suits few h =
      scenes_lawful count (count + 0) st (unloaded capacity frame name)
      (λ c g. unloaded_lawful capacity fits registry frame (count + 0) name c (subst (λ n. IsLawfulScenes capacity registry n c) same g)) h
    where
      same : count ≡ count + 0
      same = omega arith

  events_lawful : (frame count : ℕ) (xs : List FrameEvent) → ((x : FrameEvent) → In x xs → EventSuits registry x) → count + events_requests xs ≤ MOST_EVENTS → (st : State) → Lawful count st
      → Lawful (count + events_requests xs) (fold (event_done (moments first) capacity trace frame) st xs)
  events_lawful frame count [] suits few st h = subst (λ n. Lawful n st) same h
    where
      same : count ≡ count + 0
      same = omega arith
  events_lawful frame count (x ∷ xs) suits few st h =
      subst (λ n. Lawful n (fold (event_done (moments first) capacity trace frame) (event_done (moments first) capacity trace frame st x) xs)) same
      (events_lawful frame (count + event_requests x) xs (λ y i. suits y (inr i)) (omega arith) (event_done (moments first) capacity trace frame st x)
      (event_lawful frame count st x (suits x (inl refl)) (omega arith) h))
    where
      same : (count + event_requests x) + events_requests xs ≡ count + (event_requests x + events_requests xs)
      same = omega arith

  due_lawful : (frame count : ℕ) (st : State) → count ≤ MOST_EVENTS → Lawful count st → Lawful count (scenes_changed st (due_arrived capacity frame))
  due_lawful frame count st few h =
      scenes_lawful count count st (due_arrived capacity frame) (λ c g. all_arrived_lawful capacity fits registry frame count (due_from frame 0 c.loads) c few g) h

  -- ---- points

  buffer_lawful : (frame count : ℕ) (st : State) (b : Buffer) → AllSuit registry b.entries → Lawful count st → Lawful count (after_buffer (moments first) capacity trace frame st b)
  buffer_lawful frame count st b suits h =
      let suit : AllSuit st.world.registry b.entries = subst (λ r. AllSuit r b.entries) (sym h.lawful.registry_is) suits in
      record {
        lawful = record {
          world = played_lawful capacity fits st.world b.entries suit h.lawful.world;
          registry_is = played_registry capacity fits st.world b.entries suit h.lawful.world ∙ h.lawful.registry_is;
          waiting = h.lawful.waiting;
          loads = h.lawful.loads;
        };
        count_is = h.count_is;
      }

  buffers_lawful : (frame count : ℕ) (bs : List Buffer) → ((b : Buffer) → In b bs → AllSuit registry b.entries) → (st : State) → Lawful count st
      → OnGoes (Lawful count) (after_buffers (moments first) capacity trace frame bs st)
  buffers_lawful frame count [] suits st h = h
  buffers_lawful frame count (b ∷ bs) suits st h =
      by (shared_key b.entries) (after_buffers (moments first) capacity trace frame bs (after_buffer (moments first) capacity trace frame st b))
      (buffers_lawful frame count bs (λ c i. suits c (inr i)) (after_buffer (moments first) capacity trace frame st b) (buffer_lawful frame count st b (suits b (inl refl)) h))
    where
      by : (o : Option SharedKey) (next : Course) → OnGoes (Lawful count) next → OnGoes (Lawful count) (unless_shared (moments first) capacity trace frame st b o next)
      by None next g = g
      by (Some k) next g = tt

  point_lawful : (frame count : ℕ) (point : Point) (st : State) → Lawful count st → OnGoes (Lawful count) (after_point (moments first) capacity trace frame point st)
  point_lawful frame count point st h =
      buffers_lawful frame count (filter (waits_at point) st.waiting) (λ b i. h.lawful.waiting b (in_filter (waits_at point) b st.waiting i)) _
      (record {
        lawful = record {
          world = world_raised capacity st.world h.lawful.world;
          registry_is = h.lawful.registry_is;
          waiting = λ b i. h.lawful.waiting b (in_filter (λ b. not (waits_at point b)) b st.waiting i);
          loads = h.lawful.loads;
        };
        count_is = h.count_is;
      })

  -- ---- systems

  buffers_suit : (n : ℕ) (s : SystemEntry) (frame : ℕ) (entries : List Entry) → AllSuit registry entries → (b : Buffer) → In b (buffers_of n s frame entries) → AllSuit registry b.entries
  buffers_suit n s frame entries suits b i =
      let (p, j, e) = in_map (buffer_at n s frame entries) b all_points (in_filter has_entry b (map (buffer_at n s frame entries) all_points) i) in
      subst (λ (c : Buffer). AllSuit registry c.entries) (sym e) (λ x k. suits x (in_filter (λ (x : Entry). same_point x.command.point p) x entries k))

  system_lawful : (frame count n : ℕ) (s : SystemEntry) (st : State) → SystemSuits registry s → Lawful count st → Lawful count (after_system (moments first) capacity trace frame n s st)
  system_lawful frame count n s st suits h =
      let last : Option ℕ = last_run (moments first) capacity trace st.lasts n in
      let suit : SystemSuits st.world.registry s = subst (λ r. SystemSuits r s) (sym h.lawful.registry_is) suits in
      record {
        lawful = record {
          world = run_lawful capacity first s last frame st.world suit.texts h.lawful.world;
          registry_is = run_registry (moments first) s last frame st.world ∙ h.lawful.registry_is;
          waiting = λ b i. by b last (subst (λ r. AllSuit r (run (moments first) s last frame st.world).entries) h.lawful.registry_is (entries_suit (moments first) s last frame st.world suit))
              (in_append b st.waiting (buffers_of n s frame (run (moments first) s last frame st.world).entries) i);
          loads = h.lawful.loads;
        };
        count_is = h.count_is;
      }
    where
      by : (b : Buffer) (last : Option ℕ) → AllSuit registry (run (moments first) s last frame st.world).entries
          → In b st.waiting ⊎ In b (buffers_of n s frame (run (moments first) s last frame st.world).entries) → AllSuit registry b.entries
      by b last suits (inl i) = h.lawful.waiting b i
      by b last suits (inr i) = buffers_suit n s frame (run (moments first) s last frame st.world).entries suits b i

  -- ---- steps, and whole runs

  counted : (count : ℕ) (st : State) (t : Task) → StepSuits registry t.step → count + step_requests t.step ≤ MOST_EVENTS → Lawful count st
      → OnGoes (Lawful (count + step_requests t.step)) (course_after (moments first) capacity trace st t)
  unfolding course_after
  counted count st t suits few h = by t.step suits few
    where
      same : count ≡ count + 0
      same = omega arith

      by : (d : FrameStep) → StepSuits registry d → count + step_requests d ≤ MOST_EVENTS → OnGoes (Lawful (count + step_requests d)) (step_done (moments first) capacity trace t.frame st d)
      by (DoesEvents xs) suits few = events_lawful t.frame count xs suits few _ (due_lawful t.frame count (raised (moments first) capacity trace st) (omega arith) (raised_lawful count st h))
      by (Plays point) suits few = subst (λ n. OnGoes (Lawful n) (after_point (moments first) capacity trace t.frame point st)) same (point_lawful t.frame count point st h)
      by (Runs n s) suits few = subst (λ m. Lawful m (after_system (moments first) capacity trace t.frame n s st)) same (system_lawful t.frame count n s st suits h)

  pub step_lawful : (st : State) (t : Task) → StepSuits registry t.step → HasFewLoads (step_requests t.step) st → IsLawfulState capacity registry st
      → OnGoes (IsLawfulWith capacity registry (length st.loads + step_requests t.step)) (course_after (moments first) capacity trace st t)
  step_lawful st t suits few h = counted (length st.loads) st t suits few (record { lawful = h; count_is = refl })

  run_counted : (count : ℕ) (ts : List Task) → ((t : Task) → In t ts → StepSuits registry t.step) → count + task_requests ts ≤ MOST_EVENTS → (course : Course) → OnGoes (Lawful count) course
      → OnGoes (Lawful (count + task_requests ts)) (course_after_all (moments first) capacity trace ts course)
  run_counted count [] suits few course h = subst (λ n. OnGoes (Lawful n) course) same h
    where
      same : count ≡ count + 0
      same = omega arith
  run_counted count (t ∷ ts) suits few (Stops lines) h = tt
  run_counted count (t ∷ ts) suits few (Goes st) h =
      subst (λ n. OnGoes (Lawful n) (course_after_all (moments first) capacity trace ts (course_after (moments first) capacity trace st t))) same
      (run_counted (count + step_requests t.step) ts (λ u i. suits u (inr i)) (omega arith) (course_after (moments first) capacity trace st t)
      (counted count st t (suits t (inl refl)) (omega arith) h))
    where
      same : (count + step_requests t.step) + task_requests ts ≡ count + (step_requests t.step + task_requests ts)
      same = omega arith

  pub run_lawful_all : (st : State) (ts : List Task) → ((t : Task) → In t ts → StepSuits registry t.step) → HasFewLoads (task_requests ts) st → IsLawfulState capacity registry st
      → OnGoes (IsLawfulWith capacity registry (length st.loads + task_requests ts)) (course_after_all (moments first) capacity trace ts (Goes st))
  run_lawful_all st ts suits few h = run_counted (length st.loads) ts suits few (Goes st) (record { lawful = h; count_is = refl })
