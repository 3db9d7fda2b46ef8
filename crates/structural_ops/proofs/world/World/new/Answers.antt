use Rattle.world_places.proofs.Empty.{empty_placed}
use Rattle.structural_ops.proofs.After.{empty_code}
use Rattle.structural_ops.specs.Worlds.{IsConsistent}
use Rattle.structural_ops.specs.declared.tables.Tables.{Tables}
use Rattle.std.proofs.Common.{subst, sym, None, []}
use Rattle.archetype_store.specs.Stores.{StoreState}
use Rattle.entity_table.specs.Table.{Spared, empty_table}
use Rattle.structural_ops.proofs.world.World.new.Goals as goal

pub invariant_of-result : goal.invariant_of-result
invariant_of-result c =
    let store : StoreState = record { registry = None; archetypes = []; blocks = []; ranks = [] } in
    let table : Spared = record { table = empty_table c.args.first_entity_version; spare = 0 } in
    let world : StoreState → Spared → Tables =
    λ s t. record { alloc = c.args.alloc; registry = c.args.registry; store = s; table = t; version = record { 0 = c.args.first_system_version } } in
    subst (λ s. IsConsistent (world s c.new-2.result)) (sym c.new.ensures)
    (subst (λ t. IsConsistent (world store t)) (sym c.new-2.ensures)
    (record {
      agrees = record { placed = empty_placed c.args.registry c.args.first_entity_version; registered = tt };
      lawful = empty_code c.args.registry c.types.ensures.lawful c.args.first_entity_version c.args.first_system_version
          (record { from_one = c.requires.entity; within = c.ranges.first_entity_version.fits }) (record { from_one = c.requires.system; within = c.ranges.first_system_version.fits });
    }))
