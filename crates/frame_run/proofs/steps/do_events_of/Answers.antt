use Rattle.std.proofs.Common.{◌≡◌, ◌∙◌, ap, sym, subst, List, ℕ}
use Rattle.ent_types.specs.declared.type_info.TypeInfo.{TypeInfo}
use Rattle.run_laws.specs.Runnable.{ActRuns}
use Rattle.structural_ops.specs.Worlds.{Grows, WorldState}
use Rattle.world_model.specs.Members.{In}
use Rattle.world_model.specs.World.{World, capacity}
use Rattle.frame_run.specs.Stages.{after_events, events_at}
use Rattle.frame_run.specs.declared.runner.Runner.{Runner}
use Rattle.frame_run.specs.Runners.{IsReady}
use Rattle.frame_run.proofs.EventLoop.{both_ok, events_types}
use Rattle.frame_run.proofs.Found.{runners_grow}
use Rattle.frame_run.proofs.steps.do_events_of.Goals as goal

pub do_events-requires-clause-run : goal.do_events-requires-clause-run
do_events-requires-clause-run g c = λ e i.
    subst (λ (r : List TypeInfo). ActRuns r e.act) (sym (ap (λ (w : WorldState). w.world.registry) c.raise.ensures.world ∙ c.requires.types))
    (c.requires.runnable.events e (subst (In e) c.as_slice.ensures i))

pub returns-clause-ready : goal.returns-clause-ready
returns-clause-ready g c =
    let s = c.args.scenario.now in
    let raised = c.raise.new.self in
    let types = ap (λ (w : WorldState). w.world.registry) c.raise.ensures.world ∙ c.requires.types in
    both_ok _ (c.do_events.new.world.world ≡ after_events (capacity raised.world.registry) c.args.frame (events_at raised.world.registry c.args.frame 0 c.as_slice.result.now) raised.world)
    (Grows raised.archetypes c.do_events.new.world.archetypes) ((rs : List Runner) → IsReady s c.args.world.now rs → IsReady s c.do_events.new.world rs) c.do_events.ensures.world c.do_events.ensures.archetypes (λ world grows rs h. record {
      registry = ap (λ (w : World). w.registry) world
          ∙ (events_types (capacity raised.world.registry) c.args.frame (events_at raised.world.registry c.args.frame 0 c.as_slice.result.now) raised.world ∙ types);
      runners = runners_grow s.registry (λ t archetypes more k i. c.a_cache_stays_with_more_archetypes.ensures s.registry t archetypes more k i) c.args.world.now.archetypes c.do_events.new.world.archetypes
          (subst (λ (archetypes : List (List ℕ)). Grows archetypes c.do_events.new.world.archetypes) (ap (λ (w : WorldState). w.archetypes) c.raise.ensures.world) grows)
          s.system rs h.runners;
    })
