-- What operations and scenes keep, tasks keep. `R` is any relation of the world before and after, which follows from one
-- operation to the next.
use Rattle.std.proofs.Common.{◌≡◌, ℕ, ◌+◌, Bool, true, false, not, if◌then◌else◌, nat_eq, nat_le, List, [], ◌∷◌, ◌++◌, length, filter, fold, Option, Some, None, refl, ◌∙◌, slice_get, slice_set}
use Rattle.std.specs.List.{range_with_len}
use Rattle.ent_types.specs.declared.entity.Entity.{Entity}
use Rattle.world_model.specs.World.{World}
use Rattle.world_model.specs.Found.{alive_count}
use Rattle.world_model.specs.Ids.{room}
use Rattle.world_model.specs.Operations.{Operation, Create, On, Destroy, SetEnabled, Reply, Made, Done, Skipped, Answer, operate}
use Rattle.world_model.specs.Scenes.{switched_off, all_off, moved, built}
use Rattle.scenario_record.specs.declared.record.SpawnEntry.{SpawnEntry}
use Rattle.scenario_record.specs.declared.record.SystemEntry.{SystemEntry}
use Rattle.run_model.specs.declared.lines.NoteLine.TheVariants.{SceneArrived, SceneFull}
use Rattle.run_model.specs.Clock.{Clock}
use Rattle.run_model.specs.Run.{Entry, run}
use Rattle.run_model.specs.Buffers.{SharedKey, shared_key, arranged}
use Rattle.run_model.specs.Playback.{PlaybackState, made_for, operation_of, done_by, after_entry, after_entries, playback}
use Rattle.run_model.specs.Loads.{SceneFile, Absent, TooLong, Faulty, Spelled, Load, LoadState, Requested, Arrived, Refused, Unloaded, SceneState, Arrival, refusal, scene_arrival, arrival_of, arrived, load_arrived, due_from, due_arrived, with_load, requested, tagged, destroyed, load_unloaded, load_named, unloaded_there, unloaded_at, unloaded}
use Rattle.run_model.specs.Tasks.{after_row_spawned, after_spawn, spawn_parts, FrameEvent, Operates, Loads, Unloads, FrameStep, DoesEvents, Plays, Runs}
use Rattle.run_model.specs.Frames.{Buffer, State, Course, Goes, Stops, with_lines, play_lines, scenes_changed, raised, event_done, events_done, after_buffer, unless_shared, after_buffers, after_point, waits_at, last_run, course_after}
use Rattle.run_laws.specs.Lawful.{OnGoes}

module _ (capacity : List ℕ → ℕ) (R : World → World → Type 0) (same : (w : World) → R w w) (onward : (w u v : World) → R w u → R u v → R w v)
    (operated : (w : World) (operation : Operation) → R w (operate capacity w operation).world) (moves : (w scene : World) → R w (moved w scene)) where
  -- ---- operations

  done_keeps : (w : World) (o : Option Operation) → R w (done_by capacity w o).world
  done_keeps w None = same w
  done_keeps w (Some operation) = operated w operation

  -- ---- playback

  entries_keep : (p : PlaybackState) (xs : List Entry) → R p.world (after_entries capacity p xs).world
  entries_keep p [] = same p.world
  entries_keep p (x ∷ xs) =
      onward p.world (after_entry capacity p x).world (after_entries capacity (after_entry capacity p x) xs).world
      (done_keeps p.world (operation_of (made_for p.made_entities x) x.command.change))
      (entries_keep (after_entry capacity p x) xs)

  playback_keeps : (w : World) (xs : List Entry) → R w (playback capacity w xs).world
  unfolding playback
  playback_keeps w xs = entries_keep (record { world = w; made_entities = []; notes = [] }) (arranged xs)

  -- ---- spawns

  off_keeps : (e : Entity) (types : List ℕ) (w : World) → R w (fold (switched_off capacity e) w types)
  off_keeps e [] w = same w
  off_keeps e (t ∷ ts) w =
      onward w (switched_off capacity e w t) (fold (switched_off capacity e) (switched_off capacity e w t) ts)
      (operated w (On e (SetEnabled t false))) (off_keeps e ts (switched_off capacity e w t))

  all_off_keeps : (types : List ℕ) (w : World) (r : Reply) → R w (all_off capacity types (record { world = w; reply = r }))
  all_off_keeps types w (Made e) = off_keeps e types w
  all_off_keeps types w Done = same w
  all_off_keeps types w (Skipped cause) = same w

  rows_keep : (s : SpawnEntry) (ns : List ℕ) (w : World) → R w (fold (after_row_spawned capacity s) w ns)
  rows_keep s [] w = same w
  rows_keep s (n ∷ ns) w =
      let a : Answer = operate capacity w (Create (spawn_parts w.registry s n)) in
      onward w (after_row_spawned capacity s w n) (fold (after_row_spawned capacity s) (after_row_spawned capacity s w n) ns)
      (onward w a.world (all_off capacity s.disabled a) (operated w (Create (spawn_parts w.registry s n))) (all_off_keeps s.disabled a.world a.reply))
      (rows_keep s ns (after_row_spawned capacity s w n))

  pub spawns_keep : (ss : List SpawnEntry) (w : World) → R w (fold (after_spawn capacity) w ss)
  spawns_keep [] w = same w
  spawns_keep (s ∷ ss) w =
      onward w (after_spawn capacity w s) (fold (after_spawn capacity) (after_spawn capacity w s) ss)
      (rows_keep s (range_with_len 0 s.count) w) (spawns_keep ss (after_spawn capacity w s))

  -- ---- scenes

  scene_keeps : (name : List ℕ) (frame : ℕ) (w scene : World) → R w (scene_arrival name frame w scene).world
  scene_keeps name frame w scene = by (nat_le (alive_count scene) (room w))
    where
      by : (b : Bool) → R w (if b then (let a : Arrival = record { world = moved w scene; state = Arrived; line = SceneArrived name frame (alive_count scene) } in a)
          else refusal w (SceneFull name frame)).world
      by true = moves w scene
      by false = same w

  arrival_keeps : (frame number : ℕ) (name : List ℕ) (w : World) (file : SceneFile) → R w (arrival_of capacity frame number name w file).world
  arrival_keeps frame number name w Absent = same w
  arrival_keeps frame number name w TooLong = same w
  arrival_keeps frame number name w (Faulty fault) = same w
  arrival_keeps frame number name w (Spelled nodes) = scene_keeps name frame w (built capacity w.registry nodes number)

  arrived_keeps : (frame : ℕ) (st : SceneState) (k : ℕ) (load : Option Load) → R st.world (arrived capacity frame st k load).world
  arrived_keeps frame st k None = same st.world
  arrived_keeps frame st k (Some load) = arrival_keeps frame (k + 1) load.name st.world load.file

  load_keeps : (frame : ℕ) (st : SceneState) (k : ℕ) → R st.world (load_arrived capacity frame st k).world
  load_keeps frame st k = arrived_keeps frame st k (slice_get st.loads k)

  loads_keep : (frame : ℕ) (ks : List ℕ) (st : SceneState) → R st.world (fold (load_arrived capacity frame) st ks).world
  loads_keep frame [] st = same st.world
  loads_keep frame (k ∷ ks) st =
      onward st.world (load_arrived capacity frame st k).world (fold (load_arrived capacity frame) (load_arrived capacity frame st k) ks).world
      (load_keeps frame st k) (loads_keep frame ks (load_arrived capacity frame st k))

  requested_keeps : (frame : ℕ) (file : SceneFile) (name : List ℕ) (delay : ℕ) (st : SceneState) → R st.world (requested capacity frame file name delay st).world
  requested_keeps frame file name delay st = by (nat_eq delay 0)
    where
      asked : SceneState
      asked = with_load (record { name = name; due = frame + delay; file = file; state = Requested }) st

      by : (b : Bool) → R st.world (if b then load_arrived capacity frame asked (length st.loads) else asked).world
      by true = load_keeps frame asked (length st.loads)
      by false = same st.world

  destroyed_keep : (es : List Entity) (w : World) → R w (fold (destroyed capacity) w es)
  destroyed_keep [] w = same w
  destroyed_keep (e ∷ es) w =
      onward w (destroyed capacity w e) (fold (destroyed capacity) (destroyed capacity w e) es)
      (operated w (On e Destroy)) (destroyed_keep es (destroyed capacity w e))

  unload_keeps : (frame k : ℕ) (load : Load) (st : SceneState) (s : LoadState) → R st.world (load_unloaded capacity frame k load st s).world
  unload_keeps frame k load st Requested = same st.world
  unload_keeps frame k load st Arrived = destroyed_keep (tagged (k + 1) st.world.blocks) st.world
  unload_keeps frame k load st Refused = same st.world
  unload_keeps frame k load st Unloaded = same st.world

  unloaded_keeps : (frame : ℕ) (name : List ℕ) (st : SceneState) → R st.world (unloaded capacity frame name st).world
  unloaded_keeps frame name st = at (load_named name st.loads)
    where
      there : (k : ℕ) (load : Option Load) → R st.world (unloaded_there capacity frame name st k load).world
      there k None = same st.world
      there k (Some load) = unload_keeps frame k load st load.state

      at : (o : Option ℕ) → R st.world (unloaded_at capacity frame name st o).world
      at None = same st.world
      at (Some k) = there k (slice_get st.loads k)

-- ---- tasks

module _ (capacity : List ℕ → ℕ) (R : World → World → Type 0) (same : (w : World) → R w w) (onward : (w u v : World) → R w u → R u v → R w v)
    (operated : (w : World) (operation : Operation) → R w (operate capacity w operation).world) (moves : (w scene : World) → R w (moved w scene)) (clock : Clock) (trace : Bool) where
  -- the worlds of two states, the second of which has the last runs of the first
  pub record Keeps (st u : State) : Type 0 where
    pub world : R st.world u.world
    pub lasts : u.lasts ≡ st.lasts

  keeps_on : (st u v : State) → Keeps st u → Keeps u v → Keeps st v
  keeps_on st u v h k = record { world = onward st.world u.world v.world h.world k.world; lasts = k.lasts ∙ h.lasts }

  event_keeps : (frame : ℕ) (st : State) (e : FrameEvent) → Keeps st (event_done clock capacity trace frame st e)
  event_keeps frame st (Operates k operation) = record { world = done_keeps capacity R same onward operated moves st.world operation; lasts = refl }
  event_keeps frame st (Loads file name delay) =
      record { world = requested_keeps capacity R same onward operated moves frame file name delay (record { world = st.world; loads = st.loads; lines = [] }); lasts = refl }
  event_keeps frame st (Unloads name) =
      record { world = unloaded_keeps capacity R same onward operated moves frame name (record { world = st.world; loads = st.loads; lines = [] }); lasts = refl }

  each_keeps : (frame : ℕ) (es : List FrameEvent) (st : State) → Keeps st (fold (event_done clock capacity trace frame) st es)
  each_keeps frame [] st = record { world = same st.world; lasts = refl }
  each_keeps frame (e ∷ es) st =
      keeps_on st (event_done clock capacity trace frame st e) (fold (event_done clock capacity trace frame) (event_done clock capacity trace frame st e) es)
      (event_keeps frame st e) (each_keeps frame es (event_done clock capacity trace frame st e))

  events_keep : (frame : ℕ) (es : List FrameEvent) (st : State) → Keeps st (events_done clock capacity trace frame es st)
  events_keep frame es st =
      keeps_on st (scenes_changed st (due_arrived capacity frame)) (fold (event_done clock capacity trace frame) (scenes_changed st (due_arrived capacity frame)) es)
      (record {
        world = loads_keep capacity R same onward operated moves frame (due_from frame 0 st.loads) (record { world = st.world; loads = st.loads; lines = [] });
        lasts = refl;
      })
      (each_keeps frame es (scenes_changed st (due_arrived capacity frame)))

  -- a course that goes on, or has ended
  abbrev KeptOn : State → Course → Type 0
  KeptOn st course = OnGoes (Keeps st) course

  buffers_keep : (frame : ℕ) (bs : List Buffer) (st : State) → KeptOn st (after_buffers clock capacity trace frame bs st)
  buffers_keep frame [] st = record { world = same st.world; lasts = refl }
  buffers_keep frame (b ∷ bs) st =
      by (shared_key b.entries) (after_buffers clock capacity trace frame bs (after_buffer clock capacity trace frame st b))
      (buffers_keep frame bs (after_buffer clock capacity trace frame st b))
    where
      on : (course : Course) → KeptOn (after_buffer clock capacity trace frame st b) course → KeptOn st course
      on (Goes next) h =
          keeps_on st (after_buffer clock capacity trace frame st b) next
          (record { world = playback_keeps capacity R same onward operated moves st.world b.entries; lasts = refl }) h
      on (Stops lines) h = tt

      by : (o : Option SharedKey) (next : Course) → KeptOn (after_buffer clock capacity trace frame st b) next
          → KeptOn st (unless_shared clock capacity trace frame st b o next)
      by None next h = on next h
      by (Some k) next h = tt

  -- what a task makes of the last runs
  abbrev pub LastsAfter : State → FrameStep → List (Option ℕ) → Type 0
  LastsAfter st (DoesEvents es) lasts = lasts ≡ st.lasts
  LastsAfter st (Plays point) lasts = lasts ≡ st.lasts
  LastsAfter st (Runs n s) lasts = lasts ≡ slice_set st.lasts n (Some (clock.next st.world.moment))

  -- what a task leaves of a world at the next moment, and of the last runs
  pub record IsDone (st : State) (step : FrameStep) (u : State) : Type 0 where
    pub world : R (record (st.world) { moment = clock.next st.world.moment }) u.world
    pub lasts : LastsAfter st step u.lasts

  module _ (ran : (s : SystemEntry) (last : Option ℕ) (frame : ℕ) (w : World) → R (record w { moment = clock.next w.moment }) (run clock s last frame w).world) where
    pub task_keeps : (st : State) (frame : ℕ) (step : FrameStep)
        → OnGoes (IsDone st step) (course_after clock capacity trace st (record { frame = frame; step = step }))
    unfolding course_after run
    task_keeps st frame (DoesEvents es) = let k = events_keep frame es (raised clock capacity trace st) in record { world = k.world; lasts = k.lasts }
    task_keeps st frame (Plays point) =
        on (after_point clock capacity trace frame point st) (buffers_keep frame (filter (waits_at point) st.waiting) before)
      where
        before : State
        before = with_lines (record (raised clock capacity trace st) { waiting = filter (λ b. not (waits_at point b)) st.waiting })
            (play_lines clock capacity trace frame point (raised clock capacity trace st).world (filter (waits_at point) st.waiting))

        on : (course : Course) → KeptOn before course → OnGoes (IsDone st (Plays point)) course
        on (Goes u) k = record { world = k.world; lasts = k.lasts }
        on (Stops lines) k = tt
    task_keeps st frame (Runs n s) = record { world = ran s (last_run clock capacity trace st.lasts n) frame st.world; lasts = refl }
