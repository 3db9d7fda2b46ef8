use Rattle.std.proofs.Common.{◌≡◌, ◌≤◌, drop}
use Rattle.std.specs.Prelude.{fold}
use Rattle.world_model.specs.Ids.{room}
use Rattle.world_model.specs.World.{capacity}
use Rattle.run_model.specs.Tasks.{after_spawn}
use Rattle.world_spawns.specs.Room.{rows_of}
use Rattle.world_spawns.proofs.spawns.spawn_all.Given as goal

-- the spawns that are left lead to the same world, and there is room for their rows
abbrev pub invariant-loop-spawn : goal.invariant-loop-spawn
invariant-loop-spawn l = record {
  world : fold (after_spawn (capacity l.initial.world.world.registry)) l.world.world (drop l.spawn-index l.spawns)
      ≡ fold (after_spawn (capacity l.initial.world.world.registry)) l.initial.world.world l.spawns;
  registry : l.world.world.registry ≡ l.initial.world.world.registry;
  room : rows_of (drop l.spawn-index l.spawns) ≤ room l.world.world;
}
