use Rattle.std.proofs.Common.{◌≡◌, ◌∷◌, [], ◌∙◌, Ok, true, not, cond, ap, ap₂, sym, subst}
use Rattle.std.specs.Prelude.{⊤}
use Rattle.ent_types.specs.declared.skip.Skip.TheVariants as skip
use Rattle.ent_types.specs.TypeSets.{has_type}
use Rattle.world_model.specs.Operations.{On, SetEnabled, Skips, Writes, switched}
use Rattle.world_model.specs.World.{capacity}
use Rattle.block_columns.specs.Types.{IsEnableable}
use Rattle.archetype_store.specs.Stores.{OfBlock, StoreState, with_block_in}
use Rattle.world_places.proofs.Looking.{none_is}
use Rattle.world_rows.specs.Marks.{block_marked}
use Rattle.world_rows.specs.Reading.{found_at}
use Rattle.world_rows.specs.Writes.{Switch, written}
use Rattle.world_rows.proofs.CodeLawful.{code_registry}
use Rattle.world_rows.proofs.Composed.{can_first}
use Rattle.world_rows.proofs.Fitting.{enableable_own, of_type_new}
use Rattle.world_rows.proofs.Rewritten.{bit_put}
use Rattle.structural_ops.specs.Worlds.{state_of}
use Rattle.structural_ops.proofs.After.{lawful_always}
use Rattle.structural_ops.proofs.Decided.{none_always, skip_always, write_always}
use Rattle.structural_ops.proofs.Looked.{entity_there, found_there, lawful_there, of_block}
use Rattle.structural_ops.proofs.Written.{can_mark, can_write, has_is, its, put_there, put_type, written_agrees, written_here}
use Rattle.structural_ops.proofs.values.set_enabled.Goals as goal

pub returns-in_default-clause-gives : goal.returns-in_default-clause-gives
returns-in_default-clause-gives c =
    none_always (state_of c.args.w.now) c.args.e (SetEnabled c.args.ty.0 c.args.on) (none_is c.requires.consistent.agrees.placed c.args.e (sym c.place_of.ensures.value ∙ c.in_default.is))

pub returns-then-not-is_enableable-clause-gives : goal.returns-then-not-is_enableable-clause-gives
returns-then-not-is_enableable-clause-gives c =
    let w = c.args.w.now in
    let at = sym c.place_of.ensures.value ∙ c.in-Some.is in
    let x = found_at c.in-Some.place.row (its w c.requires.consistent c.args.e c.in-Some.place at) in
    skip_always (state_of w) c.args.e (SetEnabled c.args.ty.0 c.args.on) x (found_there w c.requires.consistent c.args.e c.in-Some.place at) skip.NotEnableable
    (ap (λ b. cond (not b) (Skips skip.NotEnableable) (cond (not (has_type x.home.types c.args.ty.0)) (Skips skip.NoComponent) (Writes (c.args.ty.0 ∷ []) (switched c.args.ty.0 c.args.on x.row.cells) x.row.dying)))
    (sym c.if-not-is_enableable.ensures))

pub block-requires : goal.block-requires
block-requires c = of_block c.args.w.now c.requires.consistent c.args.e c.in-Some.place (sym c.place_of.ensures.value ∙ c.in-Some.is) (λ _. ⊤) tt

pub returns-then-not-has-clause-gives : goal.returns-then-not-has-clause-gives
returns-then-not-has-clause-gives c =
    let w = c.args.w.now in
    let at = sym c.place_of.ensures.value ∙ c.in-Some.is in
    let x = found_at c.in-Some.place.row (its w c.requires.consistent c.args.e c.in-Some.place at) in
    skip_always (state_of w) c.args.e (SetEnabled c.args.ty.0 c.args.on) x (found_there w c.requires.consistent c.args.e c.in-Some.place at) skip.NoComponent
    (ap₂ (λ a b. cond (not a) (Skips skip.NotEnableable) (cond (not b) (Skips skip.NoComponent) (Writes (c.args.ty.0 ∷ []) (switched c.args.ty.0 c.args.on x.row.cells) x.row.dying)))
    (sym c.if-not-is_enableable.ensures)
    (has_is w c.requires.consistent c.args.e c.in-Some.place at c.block.result.now c.types.result.now c.args.ty.0 _ c.block.ensures c.types.ensures.value c.if-not-has.ensures.value))

pub set_enabled-requires : goal.set_enabled-requires
set_enabled-requires c =
    let w = c.args.w.now in
    let t = c.args.ty.0 in
    let at = sym c.place_of.ensures.value ∙ c.in-Some.is in
    let has = has_is w c.requires.consistent c.args.e c.in-Some.place at c.block.result.now c.types.result.now t true c.block.ensures c.types.ensures.value c.if-not-has.ensures.value in
    let i = put_type w c.requires.consistent c.args.e c.in-Some.place at t (put_there w c.requires.consistent c.args.e c.in-Some.place at t has) in
    let own = enableable_own w.registry (code_registry (capacity w.registry) (state_of w).world c.requires.consistent.lawful) t (sym c.if-not-is_enableable.ensures) in
    can_first c.in-Some.place.block c.in-Some.place.row (Switch t (not c.args.on)) [] w.store
    (can_write w c.requires.consistent c.args.e c.in-Some.place at (Switch t (not c.args.on) ∷ [])
    (of_type_new w.registry t IsEnableable (its w c.requires.consistent c.args.e c.in-Some.place at).block.types i own (sym c.if-not-is_enableable.ensures), tt))

pub mark-requires : goal.mark-requires
mark-requires c =
    subst (λ (s : StoreState). OfBlock c.in-Some.place.block (λ _. ⊤) s.blocks) (sym c.set_enabled.ensures)
    (can_mark c.args.w.now c.requires.consistent c.args.e c.in-Some.place (sym c.place_of.ensures.value ∙ c.in-Some.is) (Switch c.args.ty.0 (not c.args.on) ∷ []))

pub returns : goal.returns
returns c =
    let w = c.args.w.now in
    let t = c.args.ty.0 in
    let place = c.in-Some.place in
    let at = sym c.place_of.ensures.value ∙ c.in-Some.is in
    let x = found_at place.row (its w c.requires.consistent c.args.e place at) in
    let cells = switched t c.args.on x.row.cells in
    let ws = Switch t (not c.args.on) ∷ [] in
    let store : c.mark.new.self ≡ with_block_in place.block (block_marked t w.version.0) (written place.block place.row ws w.store) =
    c.mark.ensures ∙ ap (with_block_in place.block (block_marked t w.version.0)) c.set_enabled.ensures in
    let becomes = bit_put w.registry x (lawful_there w c.requires.consistent c.args.e place at) t c.args.on in
    let same = entity_there w c.requires.consistent c.args.e place at in
    let gives = write_always (state_of w) c.args.e (SetEnabled t c.args.on) x (found_there w c.requires.consistent c.args.e place at) (state_of (record w { store = c.mark.new.self })) t cells
    (ap₂ (λ a b. cond (not a) (Skips skip.NotEnableable) (cond (not b) (Skips skip.NoComponent) (Writes (t ∷ []) cells x.row.dying)))
    (sym c.if-not-is_enableable.ensures)
    (has_is w c.requires.consistent c.args.e place at c.block.result.now c.types.result.now t _ c.block.ensures c.types.ensures.value c.if-not-has.ensures.value))
    same
    (written_here w c.requires.consistent c.args.e place at t ws (record (x.row) { cells = cells }) same becomes c.mark.new.self store) in
    record {
      consistent = record {
        agrees = written_agrees w c.requires.consistent c.args.e place at t ws (record (x.row) { cells = cells }) same becomes c.mark.new.self store;
        lawful = lawful_always (state_of w) (state_of (record w { store = c.mark.new.self })) (On c.args.e (SetEnabled t c.args.on)) (Ok tt) c.requires.suits c.requires.consistent.lawful gives;
      };
      gives = gives;
    }
