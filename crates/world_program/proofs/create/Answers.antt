use Rattle.std.proofs.Common.{map, refl}
use Rattle.world_model.specs.Operations.{Create}
use Rattle.world_model.specs.Part.{part_of as seen}
use Rattle.structural_ops.specs.Worlds.{made}
use Rattle.structural_ops.proofs.After.{gives_registry}
use Rattle.world_program.proofs.create.Goals as goal

pub create-requires : goal.create-requires
create-requires c = c.if-not-takes_all.ensures.0 refl

pub returns : goal.returns
returns c = gives_registry c.args.world.now c.create.new.self (Create (map seen c.args.parts.now)) (made c.create.result) c.create.ensures
