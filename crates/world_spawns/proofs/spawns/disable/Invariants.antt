use Rattle.std.proofs.Common.{◌≡◌, ℕ}
use Rattle.std.specs.Prelude.{fold}
use Rattle.world_model.specs.Fits.{IsKnown}
use Rattle.world_model.specs.Members.{In}
use Rattle.world_model.specs.Scenes.{switched_off}
use Rattle.world_model.specs.World.{capacity}
use Rattle.world_spawns.proofs.spawns.disable.Given as goal

-- the types that are left lead to the same world
abbrev pub invariant-loop-ty : goal.invariant-loop-ty
invariant-loop-ty l = record {
  world : fold (switched_off (capacity l.initial.world.world.registry) l.e) l.world.world l.ty-iterator
      ≡ fold (switched_off (capacity l.initial.world.world.registry) l.e) l.initial.world.world l.types;
  registry : l.world.world.registry ≡ l.initial.world.world.registry;
  known : (t : ℕ) → In t l.ty-iterator → IsKnown l.initial.world.world.registry t;
}
