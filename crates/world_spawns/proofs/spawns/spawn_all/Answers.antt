use Rattle.std.proofs.Common.{List, subst, sym}
use Rattle.ent_types.specs.declared.type_info.TypeInfo.{TypeInfo}
use Rattle.run_laws.specs.Runnable.{SpawnRuns}
use Rattle.world_spawns.proofs.Given.{in_at}
use Rattle.world_spawns.proofs.spawns.spawn_all.Goals as goal

pub spawn_rows-requires-clause-runs : goal.spawn_rows-requires-clause-runs
spawn_rows-requires-clause-runs c =
    subst (λ (r : List TypeInfo). SpawnRuns r c.spawn-item.result) (sym c.loop-spawn.invariant.registry)
    (c.requires.run c.spawn-item.result (in_at c.args.spawns.now c.loop-spawn.spawn-index c.spawn-item.result c.loop-spawn-test.true c.spawn-item.is))
