use Rattle.std.proofs.Common.{◌≡◌, ◌≤◌, ◌<◌, ◌∙◌, false, refl, ap, sym, subst, map, List, length, Some, None, arith}
use Rattle.std.proofs.lemmas.Bool.{ne_eqb}
use Rattle.entity_table.specs.Table.{Table, Spared, Rebinds, place_of, given_by, with_made, room as table_room}
use Rattle.world_model.specs.Ids.{room}
use Rattle.world_model.specs.Part.{part_of as seen}
use Rattle.world_model.specs.World.{capacity}
use Rattle.world_model.specs.Lawful.{IsSound}
use Rattle.world_model.specs.Operations.{made as made_world}
use Rattle.archetype_store.specs.Stores.{Numbered}
use Rattle.world_places.specs.Placing.{IsPlaced, world_of}
use Rattle.world_places.proofs.Looking.{few_blocks}
use Rattle.world_places.proofs.Worlds.{room_is}
use Rattle.world_rows.specs.Entering.{AreWhole, Enters}
use Rattle.world_rows.specs.Rows.{row_from, shared_from, cells_from, home_from}
use Rattle.world_rows.proofs.CodeLawful.{code_sound, code_alive}
use Rattle.structural_ops.specs.Worlds.{state_of}
use Rattle.std.specs.Option.{IfSome}
use Rattle.structural_ops.proofs.After.{opened_keeps, grown}
use Rattle.structural_ops.proofs.Looked.{block_whole}
use Rattle.structural_ops.proofs.Entered.{made_is_placed, made_is, made_keeps}
use Rattle.structural_ops.proofs.tables.make.Goals as goal

pub enter-requires-clause-few : goal.enter-requires-clause-few
enter-requires-clause-few c =
    let alive = code_alive (capacity c.args.w.now.registry) (state_of c.args.w.now).world c.requires.consistent.lawful in
    omega (arith, ap (λ (bs : List Numbered). length bs) c.in_ok-a.ensures.ok.blocks, few_blocks c.requires.consistent.agrees.placed, alive)

pub enter-requires-clause-whole : goal.enter-requires-clause-whole
enter-requires-clause-whole c =
    subst (AreWhole c.args.w.now.registry) (sym c.in_ok-a.ensures.ok.blocks) (block_whole c.args.w.now c.requires.consistent)

pub returns-clause-agrees : goal.returns-clause-agrees
returns-clause-agrees c =
    let registry = c.args.w.now.registry in
    let parts = map seen c.args.parts.now in
    let now = c.args.w.now.version.0 in
    let t0 : Table = c.args.w.now.table.table in
    let t : Table = c.reserve.new.self.table in
    let p = c.in_ok-place.place in
    let same : t ≡ t0 = ap (λ (s : Spared). s.table) c.in_ok-reserve.ensures.1 in
    let placed : IsPlaced registry c.args.w.now.store.blocks t = subst (IsPlaced registry c.args.w.now.store.blocks) (sym same) c.requires.consistent.agrees.placed in
    let entity : c.ahead-entity.result ≡ (given_by t).entity = c.ahead-entity.ensures in
    let enters : Enters c.archetype_of.new.self c.enter.new.store c.in_ok-a.a (shared_from registry c.args.types.now parts) now (row_from registry c.args.types.now parts c.args.off.now (given_by t).entity false) p =
    subst (λ e. Enters c.archetype_of.new.self c.enter.new.store c.in_ok-a.a (shared_from registry c.args.types.now parts) now (row_from registry c.args.types.now parts c.args.off.now e false) p) entity c.in_ok-place.ensures.ok in
    let fresh : place_of t (given_by t).entity ≡ None = subst (λ e. place_of t e ≡ None) c.make.ensures.value c.make.ensures.fresh in
    let rebinds : Rebinds t (with_made t p) (given_by t).entity (Some p) =
    subst (λ u. Rebinds t u (given_by t).entity (Some p)) c.make.ensures.table (subst (λ e. Rebinds t c.make.new.self.table e (Some p)) c.make.ensures.value c.make.ensures.map) in
    let sound : IsSound (world_of registry c.args.w.now.store.blocks t now) =
    subst (λ u. IsSound (world_of registry c.args.w.now.store.blocks u now)) (sym same) (code_sound (capacity registry) (state_of c.args.w.now).world c.requires.consistent.lawful) in
    let keeps = opened_keeps c.archetype_of.new.self enters.opened c.in_ok-a.a (shared_from registry c.args.types.now parts) p.block enters.opens in
    record {
      placed = subst (IsPlaced registry c.enter.new.store.blocks) (sym c.make.ensures.table)
          (made_is_placed placed c.is_sound.ensures c.in_ok-a.ensures.ok enters refl fresh rebinds sound);
      registered = subst (λ o. IfSome o (λ r. r ≡ registry)) (sym (enters.blocks.registry ∙ keeps.0 ∙ c.in_ok-a.ensures.ok.registry_is)) refl;
    }

pub returns-clause-made : goal.returns-clause-made
returns-clause-made c =
    let registry = c.args.w.now.registry in
    let parts = map seen c.args.parts.now in
    let now = c.args.w.now.version.0 in
    let t0 : Table = c.args.w.now.table.table in
    let t : Table = c.reserve.new.self.table in
    let p = c.in_ok-place.place in
    let same : t ≡ t0 = ap (λ (s : Spared). s.table) c.in_ok-reserve.ensures.1 in
    let placed : IsPlaced registry c.args.w.now.store.blocks t = subst (IsPlaced registry c.args.w.now.store.blocks) (sym same) c.requires.consistent.agrees.placed in
    let entity : c.ahead-entity.result ≡ (given_by t).entity = c.ahead-entity.ensures in
    let enters : Enters c.archetype_of.new.self c.enter.new.store c.in_ok-a.a (shared_from registry c.args.types.now parts) now (row_from registry c.args.types.now parts c.args.off.now (given_by t).entity false) p =
    subst (λ e. Enters c.archetype_of.new.self c.enter.new.store c.in_ok-a.a (shared_from registry c.args.types.now parts) now (row_from registry c.args.types.now parts c.args.off.now e false) p) entity c.in_ok-place.ensures.ok in
    let fresh : place_of t (given_by t).entity ≡ None = subst (λ e. place_of t e ≡ None) c.make.ensures.value c.make.ensures.fresh in
    let rebinds : Rebinds t (with_made t p) (given_by t).entity (Some p) =
    subst (λ u. Rebinds t u (given_by t).entity (Some p)) c.make.ensures.table (subst (λ e. Rebinds t c.make.new.self.table e (Some p)) c.make.ensures.value c.make.ensures.map) in
    let sound : IsSound (world_of registry c.args.w.now.store.blocks t now) =
    subst (λ u. IsSound (world_of registry c.args.w.now.store.blocks u now)) (sym same) (code_sound (capacity registry) (state_of c.args.w.now).world c.requires.consistent.lawful) in
    let keeps = opened_keeps c.archetype_of.new.self enters.opened c.in_ok-a.a (shared_from registry c.args.types.now parts) p.block enters.opens in
    let fit : 0 < capacity registry c.args.types.now = c.in_ok-a.ensures.ok.fit in
    let some : 1 ≤ table_room t0 = c.in_ok-reserve.ensures.0 in (
      c.make.ensures.value ∙ ap (λ u. (given_by u).entity) same,
      (
        ne_eqb (capacity registry c.args.types.now) 0 (λ e. omega (arith, fit, e)),
        (
          ne_eqb (room (state_of c.args.w.now).world) 0 (λ e. omega (arith, some, e, room_is c.requires.consistent.agrees.placed now)),
          record {
            world_is = ap (λ u. world_of registry c.enter.new.store.blocks u now) c.make.ensures.table
                ∙ made_is placed c.is_sound.ensures c.in_ok-a.ensures.ok enters refl fresh rebinds sound
                ∙ ap (λ u. made_world (capacity registry) (home_from registry c.args.types.now parts) (cells_from registry c.args.types.now parts c.args.off.now) (world_of registry c.args.w.now.store.blocks u now)) same;
            numbers = made_keeps placed c.is_sound.ensures c.in_ok-a.ensures.ok enters refl fresh rebinds sound;
            archetypes = grown c.args.types.now c.args.w.now.store.archetypes c.archetype_of.new.self.archetypes c.enter.new.store.archetypes c.in_ok-a.ensures.ok.archetypes (enters.blocks.archetypes ∙ keeps.1);
          },
        ),
      ),
    )
