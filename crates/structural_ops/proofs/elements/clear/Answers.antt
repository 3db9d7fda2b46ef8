use Rattle.std.proofs.Common.{◌≡◌, [], ◌∙◌, Ok, not, cond, ap, sym, subst, length, true}
use Rattle.std.specs.Prelude.{⊤}
use Rattle.ent_types.specs.declared.skip.Skip.TheVariants as skip
use Rattle.ent_types.specs.declared.value.Value.{Value}
use Rattle.ent_types.specs.TypeLookups.{fields_at}
use Rattle.buffer_store.specs.Buffers.{Buffer}
use Rattle.world_model.specs.Operations.{Clear, On, Skips, values_set, with_values as values_with}
use Rattle.archetype_store.specs.Stores.{OfBlock, StoreState, with_block_in}
use Rattle.world_places.proofs.Looking.{none_is}
use Rattle.world_rows.specs.Marks.{block_marked}
use Rattle.world_rows.specs.Reading.{found_at}
use Rattle.world_rows.specs.Writes.{written}
use Rattle.structural_ops.specs.Worlds.{state_of}
use Rattle.structural_ops.proofs.After.{lawful_always}
use Rattle.structural_ops.proofs.Decided.{none_always, skip_always, write_always}
use Rattle.structural_ops.proofs.Looked.{entity_there, found_there, of_block}
use Rattle.structural_ops.proofs.Taken.{can_put_back, can_take, refill, refilled_is, refilled_store, taken_is}
use Rattle.structural_ops.proofs.Written.{can_mark, has_is, its, put_there, written_agrees, written_here}
use Rattle.structural_ops.proofs.elements.clear.Goals as goal

pub returns-in_default-clause-gives : goal.returns-in_default-clause-gives
returns-in_default-clause-gives c =
    none_always (state_of c.args.w.now) c.args.e (Clear c.args.ty.0) (none_is c.requires.consistent.agrees.placed c.args.e (sym c.place_of.ensures.value ∙ c.in_default.is))

pub block-requires : goal.block-requires
block-requires c = of_block c.args.w.now c.requires.consistent c.args.e c.in-Some.place (sym c.place_of.ensures.value ∙ c.in-Some.is) (λ _. ⊤) tt

pub returns-then-not-has-clause-gives : goal.returns-then-not-has-clause-gives
returns-then-not-has-clause-gives c =
    let w = c.args.w.now in
    let at = sym c.place_of.ensures.value ∙ c.in-Some.is in
    let x = found_at c.in-Some.place.row (its w c.requires.consistent c.args.e c.in-Some.place at) in
    skip_always (state_of w) c.args.e (Clear c.args.ty.0) x (found_there w c.requires.consistent c.args.e c.in-Some.place at) skip.NoComponent
    (ap (λ b. cond (not b) (Skips skip.NoComponent) (values_set x c.args.ty.0 (λ _. [])))
    (has_is w c.requires.consistent c.args.e c.in-Some.place at c.block.result.now c.types.result.now c.args.ty.0 _ c.block.ensures c.types.ensures.value c.if-not-has.ensures.value))

pub take_elements-elements-requires-clause-there : goal.take_elements-elements-requires-clause-there
take_elements-elements-requires-clause-there c =
    let w = c.args.w.now in
    let at = sym c.place_of.ensures.value ∙ c.in-Some.is in
    let has = has_is w c.requires.consistent c.args.e c.in-Some.place at c.block.result.now c.types.result.now c.args.ty.0 true c.block.ensures c.types.ensures.value c.if-not-has.ensures.value in
    can_take w c.requires.consistent c.args.e c.in-Some.place at c.args.ty.0 (put_there w c.requires.consistent c.args.e c.in-Some.place at c.args.ty.0 has) c.requires.suits.1

pub put_elements-requires : goal.put_elements-requires
put_elements-requires c =
    let w = c.args.w.now in
    let t = c.args.ty.0 in
    let at = sym c.place_of.ensures.value ∙ c.in-Some.is in
    let has = has_is w c.requires.consistent c.args.e c.in-Some.place at c.block.result.now c.types.result.now t true c.block.ensures c.types.ensures.value c.if-not-has.ensures.value in
    let can = put_there w c.requires.consistent c.args.e c.in-Some.place at t has in
    can_put_back w c.requires.consistent c.args.e c.in-Some.place at t can c.requires.suits.1 c.clear.new.self
    (ap (λ (b : Buffer Value). b.width) (c.clear.ensures ∙ ap (λ (b : Buffer Value). record b { values = [] }) (taken_is w c.requires.consistent c.args.e c.in-Some.place at t can c.requires.suits.1 c.take_elements-elements.result c.take_elements-elements.ensures.elements)))
    c.take_elements-elements.new.store c.take_elements-elements.ensures.store

pub mark-requires : goal.mark-requires
mark-requires c =
    let w = c.args.w.now in
    let t = c.args.ty.0 in
    let place = c.in-Some.place in
    let at = sym c.place_of.ensures.value ∙ c.in-Some.is in
    let has = has_is w c.requires.consistent c.args.e place at c.block.result.now c.types.result.now t true c.block.ensures c.types.ensures.value c.if-not-has.ensures.value in
    let can = put_there w c.requires.consistent c.args.e place at t has in
    subst (λ (s : StoreState). OfBlock place.block (λ _. ⊤) s.blocks)
    (sym (refilled_store w c.requires.consistent c.args.e place at t can c.requires.suits.1 c.take_elements-elements.new.store c.put_elements.new.self c.clear.new.self []
    c.take_elements-elements.ensures.store c.put_elements.ensures.new (ap (λ (b : Buffer Value). b.values) c.clear.ensures)))
    (can_mark w c.requires.consistent c.args.e place at (refill t (length (fields_at w.registry t)) []))

pub returns : goal.returns
returns c =
    let w = c.args.w.now in
    let t = c.args.ty.0 in
    let place = c.in-Some.place in
    let at = sym c.place_of.ensures.value ∙ c.in-Some.is in
    let has = has_is w c.requires.consistent c.args.e place at c.block.result.now c.types.result.now t true c.block.ensures c.types.ensures.value c.if-not-has.ensures.value in
    let can = put_there w c.requires.consistent c.args.e place at t has in
    let x = found_at place.row (its w c.requires.consistent c.args.e place at) in
    let cells = values_with t (λ _. []) x.row.cells in
    let ws = refill t (length (fields_at w.registry t)) [] in
    let store : c.mark.new.self ≡ with_block_in place.block (block_marked t w.version.0) (written place.block place.row ws w.store) =
    c.mark.ensures
    ∙ ap (with_block_in place.block (block_marked t w.version.0))
    (refilled_store w c.requires.consistent c.args.e place at t can c.requires.suits.1 c.take_elements-elements.new.store c.put_elements.new.self c.clear.new.self []
    c.take_elements-elements.ensures.store c.put_elements.ensures.new (ap (λ (b : Buffer Value). b.values) c.clear.ensures)) in
    let becomes = refilled_is w c.requires.consistent c.args.e place at t can c.requires.suits.1 (λ _. []) in
    let same = entity_there w c.requires.consistent c.args.e place at in
    let gives = write_always (state_of w) c.args.e (Clear t) x (found_there w c.requires.consistent c.args.e place at) (state_of (record w { store = c.mark.new.self })) t cells
    (ap (λ b. cond (not b) (Skips skip.NoComponent) (values_set x t (λ _. []))) has)
    same
    (written_here w c.requires.consistent c.args.e place at t ws (record (x.row) { cells = cells }) same becomes c.mark.new.self store) in
    record {
      consistent = record {
        agrees = written_agrees w c.requires.consistent c.args.e place at t ws (record (x.row) { cells = cells }) same becomes c.mark.new.self store;
        lawful = lawful_always (state_of w) (state_of (record w { store = c.mark.new.self })) (On c.args.e (Clear t)) (Ok tt) c.requires.suits c.requires.consistent.lawful gives;
      };
      gives = gives;
    }
