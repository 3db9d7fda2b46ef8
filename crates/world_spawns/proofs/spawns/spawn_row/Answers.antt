use Rattle.std.proofs.Common.{◌∙◌, List, Err, Result, ap, map, subst, sym}
use Rattle.ent_types.specs.declared.entity.Entity.{Entity}
use Rattle.ent_types.specs.declared.type_info.TypeInfo.{TypeInfo}
use Rattle.ent_types.specs.declared.value.Value.{Value}
use Rattle.world_model.specs.Fits.{IsKnown}
use Rattle.world_model.specs.Lawful.{Suits}
use Rattle.world_model.specs.Members.{In}
use Rattle.world_model.specs.Operations.{Create}
use Rattle.world_model.specs.Part.{PartOf, part_of as seen}
use Rattle.run_model.specs.Job.{no_row}
use Rattle.run_laws.specs.Suits.{PartSuits}
use Rattle.structural_ops.specs.declared.fault.OpFault.{OpFault}
use Rattle.structural_ops.specs.Worlds.{Gives, made}
use Rattle.world_spawns.proofs.Made.{made_registry, not_skipped, parts_filled, row_registry, row_room, row_world, spawn_suits}
use Rattle.world_spawns.proofs.spawns.spawn_row.Goals as goal

pub fill-requires-clause-suit : goal.fill-requires-clause-suit
fill-requires-clause-suit c = λ p i. subst (λ (r : List TypeInfo). PartSuits r p) (sym c.registry.ensures) (c.requires.runs.parts p (subst (In p) c.as_slice.ensures i))

pub fill-requires-clause-read : goal.fill-requires-clause-read
fill-requires-clause-read c = λ p i. c.requires.runs.reads p (subst (In p) c.as_slice.ensures i)

pub create-requires : goal.create-requires
create-requires c =
    let registry = c.args.world.now.world.registry in
    subst (λ (ps : List (PartOf Value)). Suits registry (Create ps))
    (sym (parts_filled (no_row c.args.n 0) c.deref.ensures.value c.in_ok-fill.ensures c.registry.ensures c.as_slice.ensures))
    (spawn_suits registry c.args.spawn.now c.requires.runs c.args.n)

pub disable-requires : goal.disable-requires
disable-requires c = λ t i.
    subst (λ (r : List TypeInfo). IsKnown r t)
    (sym
    (made_registry c.args.world.now c.args.spawn.now c.requires.runs c.requires.room c.args.n c.create.new.self (map seen c.deref.result.now)
    (parts_filled (no_row c.args.n 0) c.deref.ensures.value c.in_ok-fill.ensures c.registry.ensures c.as_slice.ensures) c.in-Ok.e c.in-Ok.ensures))
    (c.requires.runs.disabled t i)

pub unreachable-requires : goal.unreachable-requires
unreachable-requires c =
    not_skipped c.args.world.now c.args.spawn.now c.requires.runs c.requires.room c.args.n c.create.new.self (map seen c.deref.result.now)
    (parts_filled (no_row c.args.n 0) c.deref.ensures.value c.in_ok-fill.ensures c.registry.ensures c.as_slice.ensures) c.in-Err-Skip.field-0-0
    (subst (λ (r : Result Entity OpFault). Gives c.args.world.now c.create.new.self (Create (map seen c.deref.result.now)) (made r)) (c.in-Err-Skip.is ∙ ap Err c.in-Err-Skip.field-0-is) c.create.ensures)

pub returns-in-Ok-clause-world : goal.returns-in-Ok-clause-world
returns-in-Ok-clause-world c =
    row_world c.args.world.now c.args.spawn.now c.requires.runs c.requires.room c.args.n c.create.new.self (map seen c.deref.result.now)
    (parts_filled (no_row c.args.n 0) c.deref.ensures.value c.in_ok-fill.ensures c.registry.ensures c.as_slice.ensures) c.in-Ok.e c.in-Ok.ensures c.disable.new.world c.disable.ensures

pub returns-in-Ok-clause-registry : goal.returns-in-Ok-clause-registry
returns-in-Ok-clause-registry c =
    row_registry c.args.world.now c.args.spawn.now c.requires.runs c.requires.room c.args.n c.create.new.self (map seen c.deref.result.now)
    (parts_filled (no_row c.args.n 0) c.deref.ensures.value c.in_ok-fill.ensures c.registry.ensures c.as_slice.ensures) c.in-Ok.e c.in-Ok.ensures c.disable.new.world c.disable.ensures

pub returns-in-Ok-clause-room : goal.returns-in-Ok-clause-room
returns-in-Ok-clause-room c =
    row_room c.args.world.now c.args.spawn.now c.requires.runs c.requires.room c.args.n c.create.new.self (map seen c.deref.result.now)
    (parts_filled (no_row c.args.n 0) c.deref.ensures.value c.in_ok-fill.ensures c.registry.ensures c.as_slice.ensures) c.in-Ok.e c.in-Ok.ensures c.disable.new.world c.disable.ensures
