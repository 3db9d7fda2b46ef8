-- What a task does to the types of the world, which stay, and to its moment, which it raises once.
use Rattle.std.proofs.Common.{◌≡◌, ℕ, Bool, List, Option, Some, None, refl, ◌∙◌}
use Rattle.ent_types.specs.declared.entity.Entity.{Entity}
use Rattle.ent_types.specs.declared.value.Value.{Value}
use Rattle.ent_types.specs.Fitting.{null_entity}
use Rattle.world_model.specs.Part.{by_type}
use Rattle.world_model.specs.World.{World, empty_world}
use Rattle.world_model.specs.Found.{Found, found}
use Rattle.world_model.specs.Operations.{Act, Operation, Create, On, Outcome, Skips, Keeps, Writes, Moves, Ends, Makes, sight, decide, decide_create, apply, acted, operate}
use Rattle.world_model.specs.Scenes.{moved}
use Rattle.scenario_record.specs.declared.record.Scenario.{Scenario}
use Rattle.scenario_record.specs.declared.record.SystemEntry.{SystemEntry}
use Rattle.run_model.specs.Clock.{Clock}
use Rattle.run_model.specs.Run.{run}
use Rattle.run_model.specs.Tasks.{spawned, Task}
use Rattle.run_model.specs.Frames.{State, Course, Goes, Stops, course_after}
use Rattle.run_laws.specs.Lawful.{OnGoes}
use Rattle.run_laws.proofs.Walk.{spawns_keep, IsDone, task_keeps}

-- the types and the moment of a world are those of another one
pub record IsSteady (w u : World) : Type 0 where
  pub types : u.registry ≡ w.registry
  pub moment : u.moment ≡ w.moment

same : (w : World) → IsSteady w w
same w = record { types = refl; moment = refl }

onward : (w u v : World) → IsSteady w u → IsSteady u v → IsSteady w v
onward w u v h k = record { types = k.types ∙ h.types; moment = k.moment ∙ h.moment }

module _ (capacity : List ℕ → ℕ) where
  apply_steady : (w : World) (e : Entity) (out : Outcome) → IsSteady w (apply capacity w e out).world
  apply_steady w e (Skips cause) = record { types = refl; moment = refl }
  apply_steady w e Keeps = record { types = refl; moment = refl }
  apply_steady w e (Writes types cells dying) = record { types = refl; moment = refl }
  apply_steady w e (Moves home cells dying) = record { types = refl; moment = refl }
  apply_steady w e Ends = record { types = refl; moment = refl }
  apply_steady w e (Makes home cells) = record { types = refl; moment = refl }

  acted_steady : (w : World) (e : Entity) (a : Act Value) (x : Option Found) → IsSteady w (acted capacity w e a x).world
  acted_steady w e a None = record { types = refl; moment = refl }
  acted_steady w e a (Some x) = apply_steady w e (decide (sight capacity w) x a)

  operate_steady : (w : World) (operation : Operation) → IsSteady w (operate capacity w operation).world
  unfolding operate
  operate_steady w (Create parts) = apply_steady w null_entity (decide_create (sight capacity w) (by_type parts))
  operate_steady w (On e a) = acted_steady w e a (found e w.blocks)

  moved_steady : (w scene : World) → IsSteady w (moved w scene)
  unfolding moved
  moved_steady w scene = record { types = refl; moment = refl }

  spawned_steady : (s : Scenario) (moment : ℕ) → IsSteady (empty_world s.registry s.first_entity_version moment) (spawned capacity s moment)
  unfolding spawned
  spawned_steady s moment = spawns_keep capacity IsSteady same onward operate_steady moved_steady s.spawn (empty_world s.registry s.first_entity_version moment)

  -- a run begins with the types of its scenario
  pub spawned_types : (s : Scenario) (moment : ℕ) → (spawned capacity s moment).registry ≡ s.registry
  spawned_types s moment = (spawned_steady s moment).types

  pub spawned_moment : (s : Scenario) (moment : ℕ) → (spawned capacity s moment).moment ≡ moment
  spawned_moment s moment = (spawned_steady s moment).moment

  module _ (clock : Clock) (trace : Bool) where
    -- a course that goes on, from a world with these types at this moment
    abbrev pub IsAfter : World → Course → Type 0
    IsAfter w course = OnGoes (λ st. IsSteady w st.world) course

    ran_steady : (s : SystemEntry) (last : Option ℕ) (frame : ℕ) (w : World) → IsSteady (record w { moment = clock.next w.moment }) (run clock s last frame w).world
    unfolding run
    ran_steady s last frame w = record { types = refl; moment = refl }

    -- a task leaves the types of the world, and raises its moment once
    pub task_steady : (st : State) (t : Task) → IsAfter (record (st.world) { moment = clock.next st.world.moment }) (course_after clock capacity trace st t)
    task_steady st t =
        on (course_after clock capacity trace st t) (task_keeps capacity IsSteady same onward operate_steady moved_steady clock trace ran_steady st t.frame t.step)
      where
        on : (course : Course) → OnGoes (IsDone capacity IsSteady same onward operate_steady moved_steady clock trace st t.step) course
            → IsAfter (record (st.world) { moment = clock.next st.world.moment }) course
        on (Goes u) k = k.world
        on (Stops lines) k = tt
