use Rattle.std.proofs.Common.{◌+◌, ◌-◌, ◌∙◌, ℕ, List, arith, ap, sym}
use Rattle.std.specs.Prelude.{fold}
use Rattle.std.specs.List.{range_with_len}
use Rattle.ent_types.specs.declared.type_info.TypeInfo.{TypeInfo}
use Rattle.world_model.specs.World.{World, capacity}
use Rattle.run_model.specs.Tasks.{after_row_spawned}
use Rattle.world_spawns.proofs.Made.{range_next}
use Rattle.world_spawns.proofs.spawns.spawn_rows.Goals as goal

pub loop-n-preserved : goal.loop-n-preserved
loop-n-preserved c =
    let spawn = c.args.spawn.now in
    let step = after_row_spawned (capacity c.args.world.now.world.registry) spawn in
    let n = c.loop-n.n in
    let mid = c.loop-n.world.world in
    record {
      world = ap (λ (w : World). fold step w (range_with_len (n + 1) (spawn.count - (n + 1))))
          (c.in_ok-spawn_row.ensures.world ∙ ap (λ (r : List TypeInfo). after_row_spawned (capacity r) spawn mid n) c.loop-n.invariant.registry)
          ∙ ap (λ (ns : List ℕ). fold step mid ns) (sym (range_next n spawn.count c.loop-n-test.true))
          ∙ c.loop-n.invariant.world;
      registry = c.in_ok-spawn_row.ensures.registry ∙ c.loop-n.invariant.registry;
      room = (let before = c.loop-n.invariant.room in let fewer = c.in_ok-spawn_row.ensures.room in omega arith);
    }
