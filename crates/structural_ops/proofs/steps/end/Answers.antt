use Rattle.std.proofs.Common.{◌≡◌, ◌∙◌, ap, sym, subst}
use Rattle.std.specs.Option.{IfSome}
use Rattle.entity_table.specs.Table.{IsAlive, without}
use Rattle.world_places.specs.Placing.{IsPlaced, world_of, with_mover}
use Rattle.world_places.proofs.Leaving.{block_ready}
use Rattle.structural_ops.proofs.Ended.{leave_alive, still_alive, ended_is_placed, ended_is, ended_keeps}
use Rattle.structural_ops.proofs.Numbering.{grows_none}
use Rattle.structural_ops.proofs.steps.end.Goals as goal

pub leave-requires-clause-there : goal.leave-requires-clause-there
leave-requires-clause-there c = block_ready c.requires.consistent.agrees.placed c.args.e c.args.place c.requires.there

pub leave-requires-clause-alive : goal.leave-requires-clause-alive
leave-requires-clause-alive c = leave_alive c.requires.consistent.agrees.placed c.args.e c.args.place c.requires.there

pub free-requires : goal.free-requires
free-requires c =
    subst (λ t. IsAlive t c.args.e) (sym c.leave.ensures.table)
    (still_alive c.requires.consistent.agrees.placed c.args.e c.args.place c.requires.there c.args.w.now.version.0 c.leave.result c.leave.ensures.mover c.leave.new.store.blocks c.leave.ensures.store.blocks)

pub returns-clause-agrees : goal.returns-clause-agrees
returns-clause-agrees c =
    let registry = c.args.w.now.registry in
    let table : c.free.new.self.table ≡ without (with_mover c.leave.result c.args.place c.args.w.now.table.table) c.args.e =
    c.free.ensures.table ∙ ap (λ t. without t c.args.e) c.leave.ensures.table in
    record {
      placed = subst (IsPlaced registry c.leave.new.store.blocks) (sym table)
          (ended_is_placed c.requires.consistent.agrees.placed c.args.e c.args.place c.requires.there c.args.w.now.version.0
          c.leave.result c.leave.ensures.mover c.leave.new.store.blocks c.leave.ensures.store.blocks);
      registered = subst (λ o. IfSome o (λ r. r ≡ registry)) (sym c.leave.ensures.store.registry) c.requires.consistent.agrees.registered;
    }

pub returns-clause-ends : goal.returns-clause-ends
returns-clause-ends c =
    let registry = c.args.w.now.registry in
    let now = c.args.w.now.version.0 in
    let table : c.free.new.self.table ≡ without (with_mover c.leave.result c.args.place c.args.w.now.table.table) c.args.e =
    c.free.ensures.table ∙ ap (λ t. without t c.args.e) c.leave.ensures.table in
    record {
      world_is = ap (λ t. world_of registry c.leave.new.store.blocks t now) table
          ∙ ended_is c.requires.consistent.agrees.placed c.args.e c.args.place c.requires.there now c.leave.result c.leave.ensures.mover c.leave.new.store.blocks c.leave.ensures.store.blocks;
      numbers = ended_keeps c.requires.consistent.agrees.placed c.args.e c.args.place c.requires.there now c.leave.result c.leave.ensures.mover c.leave.new.store.blocks c.leave.ensures.store.blocks;
      archetypes = grows_none c.args.w.now.store.archetypes c.leave.new.store.archetypes c.leave.ensures.store.archetypes;
    }
