use Rattle.std.proofs.Common.{◌≡◌, ◌<◌, ◌∙◌, refl, ap, sym, subst, map, List, length, arith}
use Rattle.std.proofs.lemmas.Bool.{ne_eqb}
use Rattle.std.specs.Option.{IfSome}
use Rattle.entity_table.specs.Table.{IsAlive, with_place}
use Rattle.world_model.specs.Part.{part_of as seen}
use Rattle.world_model.specs.World.{capacity}
use Rattle.archetype_store.specs.Stores.{Numbered}
use Rattle.world_places.specs.Placing.{IsPlaced, world_of, with_mover}
use Rattle.world_places.proofs.Looking.{few_blocks}
use Rattle.world_rows.specs.Entering.{AreWhole}
use Rattle.world_rows.specs.Rows.{shared_from}
use Rattle.world_rows.proofs.CodeLawful.{code_alive}
use Rattle.structural_ops.specs.Worlds.{state_of}
use Rattle.structural_ops.proofs.After.{opened_keeps, grown}
use Rattle.structural_ops.proofs.Looked.{block_whole}
use Rattle.structural_ops.proofs.Entered.{leave_there, leave_alive, still_alive, moved_is_placed, moved_is, moved_keeps}
use Rattle.structural_ops.proofs.tables.move_row.Goals as goal

pub enter-requires-clause-few : goal.enter-requires-clause-few
enter-requires-clause-few c =
    let alive = code_alive (capacity c.args.w.now.registry) (state_of c.args.w.now).world c.requires.consistent.lawful in
    omega (arith, ap (λ (bs : List Numbered). length bs) c.in_ok-a.ensures.ok.blocks, few_blocks c.requires.consistent.agrees.placed, alive)

pub enter-requires-clause-whole : goal.enter-requires-clause-whole
enter-requires-clause-whole c =
    subst (AreWhole c.args.w.now.registry) (sym c.in_ok-a.ensures.ok.blocks) (block_whole c.args.w.now c.requires.consistent)

pub leave-requires-clause-there : goal.leave-requires-clause-there
leave-requires-clause-there c =
    leave_there c.requires.consistent.agrees.placed c.is_sound.ensures c.in_ok-a.ensures.ok c.in_ok-to.ensures.ok c.args.new.entity c.args.place c.requires.there c.requires.apart refl

pub leave-requires-clause-alive : goal.leave-requires-clause-alive
leave-requires-clause-alive c =
    leave_alive c.requires.consistent.agrees.placed c.is_sound.ensures c.in_ok-a.ensures.ok c.in_ok-to.ensures.ok c.args.new.entity c.args.place c.requires.there c.requires.apart refl

pub put_place-requires : goal.put_place-requires
put_place-requires c =
    subst (λ t. IsAlive t c.args.new.entity) (sym c.leave.ensures.table)
    (still_alive c.requires.consistent.agrees.placed c.is_sound.ensures c.in_ok-a.ensures.ok c.in_ok-to.ensures.ok c.args.new.entity c.args.place c.requires.there c.requires.apart refl
    c.leave.result c.leave.ensures.mover)

pub returns-clause-agrees : goal.returns-clause-agrees
returns-clause-agrees c =
    let registry = c.args.w.now.registry in
    let shared = shared_from registry c.args.new.types.now (map seen c.args.new.parts.now) in
    let enters = c.in_ok-to.ensures.ok in
    let keeps = opened_keeps c.archetype_of.new.self enters.opened c.in_ok-a.a shared c.in_ok-to.to.block enters.opens in
    let table : c.put_place.new.self.table ≡ with_place (with_mover c.leave.result c.args.place c.args.w.now.table.table) c.args.new.entity c.in_ok-to.to =
    c.put_place.ensures.table ∙ ap (λ t. with_place t c.args.new.entity c.in_ok-to.to) c.leave.ensures.table in
    record {
      placed = subst (IsPlaced registry c.leave.new.store.blocks) (sym table)
          (moved_is_placed c.requires.consistent.agrees.placed c.is_sound.ensures c.in_ok-a.ensures.ok enters c.args.new.entity c.args.place c.requires.there c.requires.apart refl
          c.leave.result c.leave.ensures.mover c.leave.new.store.blocks c.leave.ensures.store.blocks);
      registered = subst (λ o. IfSome o (λ r. r ≡ registry)) (sym (c.leave.ensures.store.registry ∙ enters.blocks.registry ∙ keeps.0 ∙ c.in_ok-a.ensures.ok.registry_is)) refl;
    }

pub returns-clause-moves : goal.returns-clause-moves
returns-clause-moves c =
    let registry = c.args.w.now.registry in
    let now = c.args.w.now.version.0 in
    let shared = shared_from registry c.args.new.types.now (map seen c.args.new.parts.now) in
    let enters = c.in_ok-to.ensures.ok in
    let keeps = opened_keeps c.archetype_of.new.self enters.opened c.in_ok-a.a shared c.in_ok-to.to.block enters.opens in
    let table : c.put_place.new.self.table ≡ with_place (with_mover c.leave.result c.args.place c.args.w.now.table.table) c.args.new.entity c.in_ok-to.to =
    c.put_place.ensures.table ∙ ap (λ t. with_place t c.args.new.entity c.in_ok-to.to) c.leave.ensures.table in
    let fit : 0 < capacity registry c.args.new.types.now = c.in_ok-a.ensures.ok.fit in (
      ne_eqb (capacity registry c.args.new.types.now) 0 (λ e. omega (arith, fit, e)),
      record {
        world_is = ap (λ t. world_of registry c.leave.new.store.blocks t now) table
            ∙ moved_is c.requires.consistent.agrees.placed c.is_sound.ensures c.in_ok-a.ensures.ok enters c.args.new.entity c.args.place c.requires.there c.requires.apart refl
            c.leave.result c.leave.ensures.mover c.leave.new.store.blocks c.leave.ensures.store.blocks;
        numbers = moved_keeps c.requires.consistent.agrees.placed c.is_sound.ensures c.in_ok-a.ensures.ok enters c.args.new.entity c.args.place c.requires.there c.requires.apart refl
            c.leave.result c.leave.ensures.mover c.leave.new.store.blocks c.leave.ensures.store.blocks;
        archetypes = grown c.args.new.types.now c.args.w.now.store.archetypes c.archetype_of.new.self.archetypes c.leave.new.store.archetypes c.in_ok-a.ensures.ok.archetypes
            (c.leave.ensures.store.archetypes ∙ enters.blocks.archetypes ∙ keeps.1);
      },
    )
