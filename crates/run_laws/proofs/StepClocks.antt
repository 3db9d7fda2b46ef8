-- Versions stand for moments in each step of a run: the same lines are written, and the state has versions in the place of
-- moments.
use Rattle.std.proofs.Common.{◌≡◌, ℕ, ◌+◌, ◌≤◌, Bool, true, false, not, if◌then◌else◌, nat_eq, nat_le, List, [], ◌∷◌, ◌++◌, map, filter, fold, length, Option, Some, None, option_map, refl, sym, ap, ap₂, ◌∙◌, zero, suc, inl, inr, slice_get, slice_set}
use Rattle.ent_types.specs.declared.entity.Entity.{Entity}
use Rattle.ent_types.specs.declared.point.Point.{Point}
use Rattle.system_version.specs.Versions.{version_of, IsVersion}
use Rattle.system_version.proofs.VersionLemmas.{version_of-next}
use Rattle.world_model.specs.Members.{In}
use Rattle.world_model.specs.World.{Mark, Block, World}
use Rattle.world_model.specs.Found.{Found, alive_count}
use Rattle.world_model.specs.Ids.{room}
use Rattle.world_model.specs.Operations.{Operation, On, Destroy, Answer}
use Rattle.world_model.specs.Scenes.{moved, built}
use Rattle.world_model.specs.Versions.{mark_versions, block_versions, world_versions, answer_versions}
use Rattle.world_laws.proofs.Versions.{placed_turned, room_turned, operate_turned}
use Rattle.world_laws.proofs.MovedVersions.{moved_turned}
use Rattle.scenario_record.specs.declared.record.SystemEntry.{SystemEntry}
use Rattle.run_model.specs.declared.lines.NoteLine.TheVariants.{SceneArrived, SceneFull, Unloaded as UnloadedLine}
use Rattle.run_model.specs.Clock.{moments, versions}
use Rattle.run_model.specs.Run.{Entry, run}
use Rattle.run_model.specs.Buffers.{SharedKey, shared_key, arranged}
use Rattle.run_model.specs.Playback.{PlaybackState, made_for, operation_of, done_by, with_made, note_of, after_entry, after_entries, playback}
use Rattle.run_model.specs.Loads.{SceneFile, Absent, TooLong, Faulty, Spelled, Load, LoadState, Requested, Arrived, Refused, Unloaded, SceneState, Arrival, scene_arrival, arrival_of, with_arrival, arrived, load_arrived, due_from, due_arrived, with_load, requested, is_tagged, tagged, destroyed, load_unloaded, load_named, unloaded_there, unloaded_at, unloaded}
use Rattle.run_model.specs.Tasks.{FrameEvent, Operates, Loads, Unloads, FrameStep, DoesEvents, Plays, Runs, Task}
use Rattle.run_model.specs.Frames.{Buffer, State, Course, Goes, with_lines, with_scenes, scenes_changed, raised, operation_done, event_done, events_done, with_played, after_buffer, unless_shared, after_buffers, play_lines, after_point, waits_at, last_run, with_run, after_system, step_done, course_after}
use Rattle.run_laws.specs.Versions.{state_versions, course_versions, IsLast, StateHasMoments}
use Rattle.run_laws.proofs.Clocks.{versions_run}

-- ---- a world whose moments stay

marks_as_they_are : (ms : List Mark) → map (mark_versions (λ moment. moment)) ms ≡ ms
marks_as_they_are [] = refl
marks_as_they_are (m ∷ ms) = ap (λ (ns : List Mark). m ∷ ns) (marks_as_they_are ms)

blocks_as_they_are : (bs : List Block) → map (block_versions (λ moment. moment)) bs ≡ bs
blocks_as_they_are [] = refl
blocks_as_they_are (b ∷ bs) = ap₂ (λ (ms : List Mark) cs. record b { marks = ms } ∷ cs) (marks_as_they_are b.marks) (blocks_as_they_are bs)

as_it_is : (w : World) → world_versions (λ moment. moment) w ≡ w
as_it_is w = ap (λ bs. record w { blocks = bs }) (blocks_as_they_are w.blocks)

-- ---- playback and scenes, for any function from moments

module _ (v : ℕ → ℕ) (capacity : List ℕ → ℕ) where
  done_turned : (w : World) (o : Option Operation) → done_by capacity (world_versions v w) o ≡ answer_versions v (done_by capacity w o)
  done_turned w None = refl
  done_turned w (Some operation) = operate_turned v capacity w operation

  abbrev playback_versions : PlaybackState → PlaybackState
  playback_versions p = record p { world = world_versions v p.world }

  entry_turned : (p : PlaybackState) (x : Entry) → after_entry capacity (playback_versions p) x ≡ playback_versions (after_entry capacity p x)
  entry_turned p x =
      ap (λ (a : Answer). (let q : PlaybackState = record { world = a.world; made_entities = with_made x a.reply p.made_entities; notes = p.notes ++ note_of x a.reply } in q))
      (done_turned p.world (operation_of (made_for p.made_entities x) x.command.change))

  entries_turned : (p : PlaybackState) (xs : List Entry) → after_entries capacity (playback_versions p) xs ≡ playback_versions (after_entries capacity p xs)
  entries_turned p [] = refl
  entries_turned p (x ∷ xs) = ap (λ q. after_entries capacity q xs) (entry_turned p x) ∙ entries_turned (after_entry capacity p x) xs

  playback_turned : (w : World) (xs : List Entry) → playback capacity (world_versions v w) xs ≡ playback_versions (playback capacity w xs)
  unfolding playback
  playback_turned w xs = entries_turned (record { world = w; made_entities = []; notes = [] }) (arranged xs)

  -- ---- scenes moved in

  scene_moved : (w scene : World) → moved (world_versions v w) scene ≡ world_versions v (moved w scene)
  scene_moved w scene = ap (moved (world_versions v w)) (sym (as_it_is scene)) ∙ moved_turned v (λ moment. moment) w scene

  abbrev arrival_versions : Arrival → Arrival
  arrival_versions a = record a { world = world_versions v a.world }

  abbrev scene_versions : SceneState → SceneState
  scene_versions st = record st { world = world_versions v st.world }

  scene_turned : (name : List ℕ) (frame : ℕ) (w scene : World) → scene_arrival name frame (world_versions v w) scene ≡ arrival_versions (scene_arrival name frame w scene)
  scene_turned name frame w scene =
      ap (λ n. if nat_le (alive_count scene) n then arrives (moved (world_versions v w) scene) else refuses (world_versions v w)) (room_turned v w)
      ∙ by (nat_le (alive_count scene) (room w))
    where
      arrives : World → Arrival
      arrives u = record { world = u; state = Arrived; line = SceneArrived name frame (alive_count scene) }

      refuses : World → Arrival
      refuses u = record { world = u; state = Refused; line = SceneFull name frame }

      by : (b : Bool) → (if b then arrives (moved (world_versions v w) scene) else refuses (world_versions v w)) ≡ arrival_versions (if b then arrives (moved w scene) else refuses w)
      by true = ap arrives (scene_moved w scene)
      by false = refl

  arrival_turned : (frame number : ℕ) (name : List ℕ) (w : World) (file : SceneFile)
      → arrival_of capacity frame number name (world_versions v w) file ≡ arrival_versions (arrival_of capacity frame number name w file)
  arrival_turned frame number name w Absent = refl
  arrival_turned frame number name w TooLong = refl
  arrival_turned frame number name w (Faulty fault) = refl
  arrival_turned frame number name w (Spelled nodes) = scene_turned name frame w (built capacity w.registry nodes number)

  arrived_turned : (frame : ℕ) (st : SceneState) (k : ℕ) (load : Option Load) → arrived capacity frame (scene_versions st) k load ≡ scene_versions (arrived capacity frame st k load)
  arrived_turned frame st k None = refl
  arrived_turned frame st k (Some load) = ap (with_arrival k load (scene_versions st)) (arrival_turned frame (k + 1) load.name st.world load.file)

  load_turned : (frame : ℕ) (st : SceneState) (k : ℕ) → load_arrived capacity frame (scene_versions st) k ≡ scene_versions (load_arrived capacity frame st k)
  load_turned frame st k = arrived_turned frame st k (slice_get st.loads k)

  loads_turned : (frame : ℕ) (ks : List ℕ) (st : SceneState) → fold (load_arrived capacity frame) (scene_versions st) ks ≡ scene_versions (fold (load_arrived capacity frame) st ks)
  loads_turned frame [] st = refl
  loads_turned frame (k ∷ ks) st = ap (λ s. fold (load_arrived capacity frame) s ks) (load_turned frame st k) ∙ loads_turned frame ks (load_arrived capacity frame st k)

  requested_turned : (frame : ℕ) (file : SceneFile) (name : List ℕ) (delay : ℕ) (st : SceneState)
      → requested capacity frame file name delay (scene_versions st) ≡ scene_versions (requested capacity frame file name delay st)
  requested_turned frame file name delay st = by (nat_eq delay 0)
    where
      asked : SceneState
      asked = with_load (record { name = name; due = frame + delay; file = file; state = Requested }) st

      by : (b : Bool) → (if b then load_arrived capacity frame (scene_versions asked) (length st.loads) else scene_versions asked)
          ≡ scene_versions (if b then load_arrived capacity frame asked (length st.loads) else asked)
      by true = load_turned frame asked (length st.loads)
      by false = refl

  destroyed_turned : (es : List Entity) (w : World) → fold (destroyed capacity) (world_versions v w) es ≡ world_versions v (fold (destroyed capacity) w es)
  destroyed_turned [] w = refl
  destroyed_turned (e ∷ es) w =
      ap (λ (a : Answer). fold (destroyed capacity) a.world es) (operate_turned v capacity w (On e Destroy)) ∙ destroyed_turned es (destroyed capacity w e)

  state_turned : (frame k : ℕ) (load : Load) (st : SceneState) (s : LoadState)
      → load_unloaded capacity frame k load (scene_versions st) s ≡ scene_versions (load_unloaded capacity frame k load st s)
  state_turned frame k load st Requested = refl
  state_turned frame k load st Arrived =
      ap (λ es. left es (fold (destroyed capacity) (world_versions v st.world) es)) (ap (λ xs. map (λ (x : Found). x.row.entity) (filter (is_tagged (k + 1)) xs)) (placed_turned v st.world.blocks))
      ∙ ap (left (tagged (k + 1) st.world.blocks)) (destroyed_turned (tagged (k + 1) st.world.blocks) st.world)
    where
      left : List Entity → World → SceneState
      left es w = record {
        world = w;
        loads = slice_set st.loads k (record load { state = Unloaded });
        lines = st.lines ++ UnloadedLine load.name frame (length es) ∷ [];
      }
  state_turned frame k load st Refused = refl
  state_turned frame k load st Unloaded = refl

  unloaded_turned : (frame : ℕ) (name : List ℕ) (st : SceneState) → unloaded capacity frame name (scene_versions st) ≡ scene_versions (unloaded capacity frame name st)
  unloaded_turned frame name st = at (load_named name st.loads)
    where
      there : (k : ℕ) (load : Option Load) → unloaded_there capacity frame name (scene_versions st) k load ≡ scene_versions (unloaded_there capacity frame name st k load)
      there k None = refl
      there k (Some load) = state_turned frame k load st load.state

      at : (o : Option ℕ) → unloaded_at capacity frame name (scene_versions st) o ≡ scene_versions (unloaded_at capacity frame name st o)
      at None = refl
      at (Some k) = there k (slice_get st.loads k)

-- ---- steps

module _ (first : ℕ) (capacity : List ℕ → ℕ) (trace : Bool) where
  abbrev v : ℕ → ℕ
  v = version_of first

  raised_turned : (st : State) → 1 ≤ st.world.moment → raised versions capacity trace (state_versions v st) ≡ state_versions v (raised (moments first) capacity trace st)
  raised_turned st some = ap (λ n. record (state_versions v st) { world = record (world_versions v st.world) { moment = n } }) (sym (version_of-next first st.world.moment some))

  event_turned : (frame : ℕ) (st : State) (e : FrameEvent) → event_done versions capacity trace frame (state_versions v st) e ≡ state_versions v (event_done (moments first) capacity trace frame st e)
  event_turned frame st (Operates k operation) = ap (operation_done versions capacity trace frame k (state_versions v st)) (done_turned v capacity st.world operation)
  event_turned frame st (Loads file name delay) =
      ap (with_scenes (state_versions v st)) (requested_turned v capacity frame file name delay (record { world = st.world; loads = st.loads; lines = [] }))
  event_turned frame st (Unloads name) =
      ap (with_scenes (state_versions v st)) (unloaded_turned v capacity frame name (record { world = st.world; loads = st.loads; lines = [] }))

  events_turned : (frame : ℕ) (es : List FrameEvent) (st : State)
      → fold (event_done versions capacity trace frame) (state_versions v st) es ≡ state_versions v (fold (event_done (moments first) capacity trace frame) st es)
  events_turned frame [] st = refl
  events_turned frame (e ∷ es) st =
      ap (λ s. fold (event_done versions capacity trace frame) s es) (event_turned frame st e) ∙ events_turned frame es (event_done (moments first) capacity trace frame st e)

  due_turned : (frame : ℕ) (st : State) → scenes_changed (state_versions v st) (due_arrived capacity frame) ≡ state_versions v (scenes_changed st (due_arrived capacity frame))
  due_turned frame st =
      ap (with_scenes (state_versions v st)) (loads_turned v capacity frame (due_from frame 0 st.loads) (record { world = st.world; loads = st.loads; lines = [] }))

  buffer_turned : (frame : ℕ) (st : State) (b : Buffer) → after_buffer versions capacity trace frame (state_versions v st) b ≡ state_versions v (after_buffer (moments first) capacity trace frame st b)
  buffer_turned frame st b = ap (with_played versions capacity trace frame (state_versions v st) b) (playback_turned v capacity st.world b.entries)

  buffers_turned : (frame : ℕ) (bs : List Buffer) (st : State) → after_buffers versions capacity trace frame bs (state_versions v st) ≡ course_versions v (after_buffers (moments first) capacity trace frame bs st)
  buffers_turned frame [] st = refl
  buffers_turned frame (b ∷ bs) st =
      ap (unless_shared versions capacity trace frame (state_versions v st) b (shared_key b.entries))
      (ap (after_buffers versions capacity trace frame bs) (buffer_turned frame st b) ∙ buffers_turned frame bs (after_buffer (moments first) capacity trace frame st b))
      ∙ by (shared_key b.entries) (after_buffers (moments first) capacity trace frame bs (after_buffer (moments first) capacity trace frame st b))
    where
      by : (o : Option SharedKey) (next : Course)
          → unless_shared versions capacity trace frame (state_versions v st) b o (course_versions v next) ≡ course_versions v (unless_shared (moments first) capacity trace frame st b o next)
      by None next = refl
      by (Some k) next = refl

  point_turned : (frame : ℕ) (point : Point) (st : State) → 1 ≤ st.world.moment
      → after_point versions capacity trace frame point (state_versions v st) ≡ course_versions v (after_point (moments first) capacity trace frame point st)
  point_turned frame point st some =
      ap (λ (s : State). after_buffers versions capacity trace frame (filter (waits_at point) st.waiting)
      (with_lines (record s { waiting = filter (λ b. not (waits_at point b)) st.waiting }) (play_lines versions capacity trace frame point s.world (filter (waits_at point) st.waiting))))
      (raised_turned st some)
      ∙ (ap (λ ls. after_buffers versions capacity trace frame (filter (waits_at point) st.waiting)
      (with_lines (record (state_versions v (raised (moments first) capacity trace st)) { waiting = filter (λ b. not (waits_at point b)) st.waiting }) ls)) (lines (filter (waits_at point) st.waiting))
      ∙ buffers_turned frame (filter (waits_at point) st.waiting)
      (with_lines (record (raised (moments first) capacity trace st) { waiting = filter (λ b. not (waits_at point b)) st.waiting })
      (play_lines (moments first) capacity trace frame point (raised (moments first) capacity trace st).world (filter (waits_at point) st.waiting))))
    where
      lines : (bs : List Buffer) → play_lines versions capacity trace frame point (world_versions v (raised (moments first) capacity trace st).world) bs
          ≡ play_lines (moments first) capacity trace frame point (raised (moments first) capacity trace st).world bs
      lines [] = refl
      lines (b ∷ bs) = refl

  last_turned : (lasts : List (Option ℕ)) (n : ℕ) → last_run versions capacity trace (map (option_map v) lasts) n ≡ option_map v (last_run (moments first) capacity trace lasts n)
  last_turned [] n = refl
  last_turned (o ∷ os) zero = refl
  last_turned (o ∷ os) (suc n) = last_turned os n

  set_turned : (lasts : List (Option ℕ)) (n m : ℕ) → slice_set (map (option_map v) lasts) n (Some (v m)) ≡ map (option_map v) (slice_set lasts n (Some m))
  set_turned [] n m = refl
  set_turned (o ∷ os) zero m = refl
  set_turned (o ∷ os) (suc n) m = ap (λ (us : List (Option ℕ)). option_map v o ∷ us) (set_turned os n m)

  system_turned : (frame n : ℕ) (s : SystemEntry) (st : State) → IsVersion first → StateHasMoments st
      → after_system versions capacity trace frame n s (state_versions v st) ≡ state_versions v (after_system (moments first) capacity trace frame n s st)
  system_turned frame n s st version has =
      ap (λ o. with_run versions capacity trace frame n s (state_versions v st) (run versions s o frame (world_versions v st.world))) (last_turned st.lasts n)
      ∙ (ap (with_run versions capacity trace frame n s (state_versions v st)) (versions_run first s (last_run (moments first) capacity trace st.lasts n) frame st.world version (last_is st.lasts has.lasts n) has.world)
      ∙ ap (λ (ls : List (Option ℕ)). record (state_versions v (after_system (moments first) capacity trace frame n s st)) { lasts = ls })
      (set_turned st.lasts n (run (moments first) s (last_run (moments first) capacity trace st.lasts n) frame st.world).world.moment))
    where
      last_is : (lasts : List (Option ℕ)) → ((o : Option ℕ) → In o lasts → IsLast o) → (n : ℕ) → IsLast (last_run (moments first) capacity trace lasts n)
      last_is [] h n = tt
      last_is (o ∷ os) h zero = h o (inl refl)
      last_is (o ∷ os) h (suc n) = last_is os (λ p i. h p (inr i)) n

  pub step_turned : (st : State) (t : Task) → IsVersion first → StateHasMoments st
      → course_after versions capacity trace (state_versions v st) t ≡ course_versions v (course_after (moments first) capacity trace st t)
  unfolding course_after
  step_turned st t version has = by t.step
    where
      by : (d : FrameStep) → step_done versions capacity trace t.frame (state_versions v st) d ≡ course_versions v (step_done (moments first) capacity trace t.frame st d)
      by (DoesEvents es) =
          ap (λ s. Goes (events_done versions capacity trace t.frame es s)) (raised_turned st has.world.now)
          ∙ (ap (λ s. Goes (fold (event_done versions capacity trace t.frame) s es)) (due_turned t.frame (raised (moments first) capacity trace st))
          ∙ ap Goes (events_turned t.frame es (scenes_changed (raised (moments first) capacity trace st) (due_arrived capacity t.frame))))
      by (Plays point) = point_turned t.frame point st has.world.now
      by (Runs n s) = ap Goes (system_turned t.frame n s st version has)
