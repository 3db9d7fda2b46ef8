-- Versions stand for moments in the whole run of a scenario.
use Rattle.std.proofs.Common.{◌≡◌, ℕ, ◌+◌, ◌≤◌, zero, suc, inl, inr, Bool, false, List, [], ◌∷◌, length, map, fold, Option, Some, None, option_map, refl, ap, ap₂, ◌∙◌, arith}
use Rattle.std.specs.Prelude.{replicate}
use Rattle.std.specs.List.{range_with_len}
use Rattle.ent_types.specs.declared.entity.Entity.{Entity}
use Rattle.system_version.specs.Versions.{version_of, IsVersion, IsMoment}
use Rattle.world_model.specs.Members.{In}
use Rattle.world_model.specs.World.{World, empty_world, capacity}
use Rattle.world_model.specs.Lawful.{IsPast}
use Rattle.world_model.specs.Operations.{Create, On, SetEnabled, Reply, Made, Done, Skipped, Answer, operate}
use Rattle.world_model.specs.Scenes.{switched_off, all_off}
use Rattle.world_model.specs.Versions.{world_versions}
use Rattle.world_laws.proofs.Versions.{operate_turned}
use Rattle.scenario_record.specs.declared.record.Scenario.{Scenario}
use Rattle.scenario_record.specs.declared.record.SpawnEntry.{SpawnEntry}
use Rattle.run_model.specs.Clock.{moments, versions}
use Rattle.run_model.specs.Tasks.{Task, spawn_parts, after_row_spawned, after_spawn, spawned}
use Rattle.run_model.specs.Frames.{Line, State, Course, Goes, Stops, started, course_after, course_after_all, end_of, end_of_run}
use Rattle.run_model.specs.Loads.{SceneFile}
use Rattle.run_model.specs.Steps.{steps_of, IsOrdered}
use Rattle.run_model.specs.Outcome.{first_moment, tasks_of_run, outcome}
use Rattle.run_laws.specs.Lawful.{OnGoes}
use Rattle.run_laws.specs.Versions.{state_versions, course_versions, end_versions, IsLast, StateHasMoments}
use Rattle.run_laws.proofs.StepClocks.{step_turned}
use Rattle.run_laws.proofs.Steady.{IsAfter, task_steady, spawned_moment}
use Rattle.run_laws.proofs.Past.{IsPastState, past_after, spawned_past}
use Rattle.run_laws.proofs.Moments.{few_tasks_in_run}

-- ---- spawns

module _ (v : ℕ → ℕ) (capacity : List ℕ → ℕ) where
  off_turned : (e : Entity) (types : List ℕ) (w : World) → fold (switched_off capacity e) (world_versions v w) types ≡ world_versions v (fold (switched_off capacity e) w types)
  off_turned e [] w = refl
  off_turned e (t ∷ ts) w =
      ap (λ (a : Answer). fold (switched_off capacity e) a.world ts) (operate_turned v capacity w (On e (SetEnabled t false))) ∙ off_turned e ts (switched_off capacity e w t)

  all_off_turned : (types : List ℕ) (w : World) (r : Reply)
      → all_off capacity types (record { world = world_versions v w; reply = r }) ≡ world_versions v (all_off capacity types (record { world = w; reply = r }))
  all_off_turned types w (Made e) = off_turned e types w
  all_off_turned types w Done = refl
  all_off_turned types w (Skipped cause) = refl

  rows_turned : (s : SpawnEntry) (ns : List ℕ) (w : World) → fold (after_row_spawned capacity s) (world_versions v w) ns ≡ world_versions v (fold (after_row_spawned capacity s) w ns)
  rows_turned s [] w = refl
  rows_turned s (n ∷ ns) w =
      ap (λ u. fold (after_row_spawned capacity s) u ns)
      (ap (all_off capacity s.disabled) (operate_turned v capacity w (Create (spawn_parts w.registry s n))) ∙ all_off_turned s.disabled (operate capacity w (Create (spawn_parts w.registry s n))).world (operate capacity w (Create (spawn_parts w.registry s n))).reply)
      ∙ rows_turned s ns (after_row_spawned capacity s w n)

  spawns_turned : (ss : List SpawnEntry) (w : World) → fold (after_spawn capacity) (world_versions v w) ss ≡ world_versions v (fold (after_spawn capacity) w ss)
  spawns_turned [] w = refl
  spawns_turned (s ∷ ss) w =
      ap (λ u. fold (after_spawn capacity) u ss) (rows_turned s (range_with_len 0 s.count) w) ∙ spawns_turned ss (after_spawn capacity w s)

  never_turned : (n : ℕ) → replicate n None ≡ map (option_map v) (replicate n None)
  never_turned zero = refl
  never_turned (suc n) = ap (λ (ls : List (Option ℕ)). None ∷ ls) (never_turned n)

  started_turned : (s : Scenario) (moment : ℕ) → started capacity s (v moment) ≡ state_versions v (started capacity s moment)
  unfolding spawned
  started_turned s moment =
      ap₂ (λ w ls. (let st : State = record { world = w; lasts = ls; waiting = []; loads = []; lines = [] } in st))
      (spawns_turned s.spawn (empty_world s.registry s.first_entity_version moment)) (never_turned (length s.system))

-- ---- tasks

module _ (first : ℕ) (version : IsVersion first) (capacity : List ℕ → ℕ) (trace : Bool) where
  few_moments : (now m : ℕ) → now ≤ 26200001 → IsPast now m → IsMoment m
  few_moments now m few h = let a = h.within in record { from_one = h.from_one; within = omega (arith, a, few) }

  state_moments : (st : State) → IsPastState capacity st → st.world.moment ≤ 26200001 → StateHasMoments st
  state_moments st h few = record {
    world = record {
      now = h.world.now;
      marks = λ b i m j. few_moments st.world.moment m.moment few ((h.world.blocks b i).marks m j);
      order = λ b i. few_moments st.world.moment b.order few (h.world.blocks b i).order;
    };
    lasts = at;
  }
    where
      at : (last : Option ℕ) → In last st.lasts → IsLast last
      at None i = tt
      at (Some l) i = few_moments st.world.moment l few (h.lasts l i)

  tasks_turned : (ts : List Task) (st : State) → IsPastState capacity st → st.world.moment + length ts ≤ 26200001
      → course_after_all versions capacity trace ts (Goes (state_versions (version_of first) st))
      ≡ course_versions (version_of first) (course_after_all (moments first) capacity trace ts (Goes st))
  tasks_turned [] st h few = refl
  tasks_turned (t ∷ ts) st h few =
      ap (course_after_all versions capacity trace ts) (step_turned first capacity trace st t version (state_moments st h (omega (arith, few))))
      ∙ on (course_after (moments first) capacity trace st t) (task_steady capacity (moments first) trace st t) (past_after capacity first trace st t h) (tasks_turned ts)
    where
      stops : (us : List Task) (lines : List Line) → course_after_all versions capacity trace us (Stops lines) ≡ course_versions (version_of first) (course_after_all (moments first) capacity trace us (Stops lines))
      stops [] lines = refl
      stops (u ∷ us) lines = refl

      on : (course : Course) → IsAfter capacity (moments first) trace (record (st.world) { moment = st.world.moment + 1 }) course → OnGoes (IsPastState capacity) course
          → ((u : State) → IsPastState capacity u → u.world.moment + length ts ≤ 26200001 → course_after_all versions capacity trace ts (Goes (state_versions (version_of first) u))
          ≡ course_versions (version_of first) (course_after_all (moments first) capacity trace ts (Goes u)))
          → course_after_all versions capacity trace ts (course_versions (version_of first) course)
          ≡ course_versions (version_of first) (course_after_all (moments first) capacity trace ts course)
      on (Goes u) k p rest = rest u p (let m = k.moment in omega (arith, m, few))
      on (Stops lines) k p rest = stops ts lines

end_turned : (v : ℕ → ℕ) (course : Course) → end_of (course_versions v course) ≡ end_versions v (end_of course)
end_turned v (Goes st) = refl
end_turned v (Stops lines) = refl

none_ran : (n l : ℕ) → In (Some l) (replicate n None) → ⊥
none_ran zero l i = i
none_ran (suc n) l (inl e) = absurd (cc)
none_ran (suc n) l (inr i) = none_ran n l i

-- the run over versions ends as the run over moments
pub run_turned : (trace : Bool) (files : List ℕ → SceneFile) (s : Scenario) → IsVersion s.first_system_version → IsOrdered s → s.frames ≤ 100000 → length s.system ≤ 256
    → end_of_run versions (capacity s.registry) trace files s (steps_of s) s.first_system_version
    ≡ end_versions (version_of s.first_system_version) (outcome trace files s)
unfolding end_of_run outcome version_of
run_turned trace files s version ordered frames systems =
    ap (λ c. end_of (course_after_all versions (capacity s.registry) trace (tasks_of_run files s) (Goes c))) (started_turned (version_of s.first_system_version) (capacity s.registry) s first_moment)
    ∙ (ap end_of (tasks_turned s.first_system_version version (capacity s.registry) trace (tasks_of_run files s) (started (capacity s.registry) s first_moment) past few)
    ∙ end_turned (version_of s.first_system_version) (course_after_all (moments s.first_system_version) (capacity s.registry) trace (tasks_of_run files s) (Goes (started (capacity s.registry) s first_moment))))
  where
    past : IsPastState (capacity s.registry) (started (capacity s.registry) s first_moment)
    past = record {
      world = spawned_past (capacity s.registry) s first_moment (omega arith);
      lasts = λ l i. absurd (none_ran (length s.system) l i);
    }

    few : (started (capacity s.registry) s first_moment).world.moment + length (tasks_of_run files s) ≤ 26200001
    few = let begin = spawned_moment (capacity s.registry) s first_moment in let tasks = few_tasks_in_run files s ordered frames systems in omega (arith, begin, tasks)
