use Rattle.std.proofs.Common.{◌≡◌, ◌+◌, ◌-◌}
use Rattle.std.specs.Prelude.{fold}
use Rattle.std.specs.List.{range_with_len}
use Rattle.world_model.specs.Ids.{room}
use Rattle.world_model.specs.World.{capacity}
use Rattle.run_model.specs.Tasks.{after_row_spawned}
use Rattle.world_spawns.proofs.spawns.spawn_rows.Given as goal

-- the rows that are left lead to the same world, and there is room for them
abbrev pub invariant-loop-n : goal.invariant-loop-n
invariant-loop-n l = record {
  world : fold (after_row_spawned (capacity l.initial.world.world.registry) l.spawn) l.world.world (range_with_len l.n (l.spawn.count - l.n))
      ≡ fold (after_row_spawned (capacity l.initial.world.world.registry) l.spawn) l.initial.world.world (range_with_len 0 l.spawn.count);
  registry : l.world.world.registry ≡ l.initial.world.world.registry;
  room : room l.world.world + l.n ≡ room l.initial.world.world;
}
