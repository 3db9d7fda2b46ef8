use Rattle.std.proofs.Common.{ℕ, ◌≡◌, ◌+◌, ◌*◌, ◌<◌, ◌∷◌, [], ◌∙◌, List, ap, refl, sym, subst, length, set}
use Rattle.std.specs.Prelude.{⊤}
use Rattle.ent_types.specs.declared.value.Value.{Value}
use Rattle.ent_types.specs.declared.value.Value.TheVariants.{Ref}
use Rattle.ent_types.specs.TypeLookups.{fields_at}
use Rattle.buffer_store.specs.Buffers.{Buffer, count_of}
use Rattle.world_laws.proofs.Types.{has_in}
use Rattle.world_model.specs.Operations.{with_values as values_with}
use Rattle.chunk_block.specs.Blocks.{content_at}
use Rattle.archetype_store.specs.Stores.{OfBlock, StoreState, with_block_in}
use Rattle.world_places.proofs.Looking.{none_is}
use Rattle.world_rows.specs.Marks.{block_marked}
use Rattle.world_rows.specs.Reading.{found_at}
use Rattle.world_rows.specs.Writes.{written}
use Rattle.world_rows.proofs.ByType.{own_fit}
use Rattle.world_rows.proofs.Fitting.{buffer_own}
use Rattle.world_rows.proofs.References.{buffer_fit_with, field_there}
use Rattle.structural_ops.specs.Worlds.{state_of}
use Rattle.structural_ops.proofs.Looked.{entity_there, lawful_there}
use Rattle.structural_ops.proofs.References.{changed_lawful, counts_none, its_buffer, its_elements, values_changed}
use Rattle.structural_ops.proofs.Taken.{can_put_back, can_take, refill, refilled_is, refilled_store, taken_is}
use Rattle.structural_ops.proofs.Written.{can_mark, its, its_row, put_there, written_agrees, written_here}
use Rattle.structural_ops.proofs.elements.put_element_ref.Goals as goal

pub unreachable-requires : goal.unreachable-requires
unreachable-requires c =
    counts_none (state_of c.args.w.now).world c.args.e c.args.ty.0 c.args.k (none_is c.requires.consistent.agrees.placed c.args.e (sym c.place_of.ensures.value ∙ c.in-None.is)) c.requires.there.there

pub take_elements-elements-requires-clause-there : goal.take_elements-elements-requires-clause-there
take_elements-elements-requires-clause-there c =
    let w = c.args.w.now in
    let t = c.args.ty.0 in
    let at = sym c.place_of.ensures.value ∙ c.in-Some.is in
    let can = put_there w c.requires.consistent c.args.e c.in-Some.place at t (its_buffer w c.requires.consistent c.args.e c.in-Some.place at t c.args.k c.requires.there.there) in
    can_take w c.requires.consistent c.args.e c.in-Some.place at t can c.requires.there.buffer

pub put-requires-clause-element : goal.put-requires-clause-element
put-requires-clause-element c =
    let w = c.args.w.now in
    let t = c.args.ty.0 in
    let at = sym c.place_of.ensures.value ∙ c.in-Some.is in
    let can = put_there w c.requires.consistent c.args.e c.in-Some.place at t (its_buffer w c.requires.consistent c.args.e c.in-Some.place at t c.args.k c.requires.there.there) in
    let taken = taken_is w c.requires.consistent c.args.e c.in-Some.place at t can c.requires.there.buffer c.take_elements-elements.result c.take_elements-elements.ensures.elements in
    subst (λ (b : Buffer Value). c.args.k < count_of b) (sym taken) (its_elements w c.requires.consistent c.args.e c.in-Some.place at t c.args.k c.requires.there.there c.requires.there.buffer)

pub put-requires-clause-field : goal.put-requires-clause-field
put-requires-clause-field c =
    let w = c.args.w.now in
    let t = c.args.ty.0 in
    let at = sym c.place_of.ensures.value ∙ c.in-Some.is in
    let can = put_there w c.requires.consistent c.args.e c.in-Some.place at t (its_buffer w c.requires.consistent c.args.e c.in-Some.place at t c.args.k c.requires.there.there) in
    let taken = taken_is w c.requires.consistent c.args.e c.in-Some.place at t can c.requires.there.buffer c.take_elements-elements.result c.take_elements-elements.ensures.elements in
    subst (λ (b : Buffer Value). c.args.field < b.width) (sym taken) (field_there w.registry t c.args.field c.requires.there.kind)

pub put_elements-requires : goal.put_elements-requires
put_elements-requires c =
    let w = c.args.w.now in
    let t = c.args.ty.0 in
    let at = sym c.place_of.ensures.value ∙ c.in-Some.is in
    let can = put_there w c.requires.consistent c.args.e c.in-Some.place at t (its_buffer w c.requires.consistent c.args.e c.in-Some.place at t c.args.k c.requires.there.there) in
    let taken = taken_is w c.requires.consistent c.args.e c.in-Some.place at t can c.requires.there.buffer c.take_elements-elements.result c.take_elements-elements.ensures.elements in
    can_put_back w c.requires.consistent c.args.e c.in-Some.place at t can c.requires.there.buffer c.put.new.self
    (ap (λ (b : Buffer Value). b.width) c.put.ensures ∙ ap (λ (b : Buffer Value). b.width) taken) c.take_elements-elements.new.store c.take_elements-elements.ensures.store

pub mark-requires : goal.mark-requires
mark-requires c =
    let w = c.args.w.now in
    let t = c.args.ty.0 in
    let place = c.in-Some.place in
    let at = sym c.place_of.ensures.value ∙ c.in-Some.is in
    let can = put_there w c.requires.consistent c.args.e place at t (its_buffer w c.requires.consistent c.args.e place at t c.args.k c.requires.there.there) in
    subst (λ (s : StoreState). OfBlock place.block (λ _. ⊤) s.blocks)
    (sym (refilled_store w c.requires.consistent c.args.e place at t can c.requires.there.buffer c.take_elements-elements.new.store c.put_elements.new.self c.put.new.self c.put.new.self.values
    c.take_elements-elements.ensures.store c.put_elements.ensures.new refl))
    (can_mark w c.requires.consistent c.args.e place at (refill t (length (fields_at w.registry t)) c.put.new.self.values))

pub returns : goal.returns
returns c =
    let w = c.args.w.now in
    let t = c.args.ty.0 in
    let place = c.in-Some.place in
    let at = sym c.place_of.ensures.value ∙ c.in-Some.is in
    let has = its_buffer w c.requires.consistent c.args.e place at t c.args.k c.requires.there.there in
    let can = put_there w c.requires.consistent c.args.e place at t has in
    let buffers = c.requires.there.buffer in
    let row = its_row w c.requires.consistent c.args.e place at in
    let x = found_at place.row (its w c.requires.consistent c.args.e place at) in
    let lawful = lawful_there w c.requires.consistent c.args.e place at in
    let width = length (fields_at w.registry t) in
    let put : List Value → List Value = λ values. set values (c.args.k * width + c.args.field) (Ref c.args.to) in
    let cells = values_with t put row.cells in
    let ws = refill t width (put (content_at t row.cells).values) in
    let taken = taken_is w c.requires.consistent c.args.e place at t can buffers c.take_elements-elements.result c.take_elements-elements.ensures.elements in
    let store : c.mark.new.self ≡ with_block_in place.block (block_marked t w.version.0) (written place.block place.row ws w.store) =
    c.mark.ensures
    ∙ ap (with_block_in place.block (block_marked t w.version.0))
    (refilled_store w c.requires.consistent c.args.e place at t can buffers c.take_elements-elements.new.store c.put_elements.new.self c.put.new.self (put (content_at t row.cells).values)
    c.take_elements-elements.ensures.store c.put_elements.ensures.new
    (ap (λ (b : Buffer Value). b.values) c.put.ensures ∙ ap (λ (b : Buffer Value). set b.values (c.args.k * b.width + c.args.field) (Ref c.args.to)) taken)) in
    let becomes = refilled_is w c.requires.consistent c.args.e place at t can buffers put in
    let same = entity_there w c.requires.consistent c.args.e place at in
    let in_place = written_here w c.requires.consistent c.args.e place at t ws (record row { cells = cells }) same becomes c.mark.new.self store in
    record {
      consistent = record {
        agrees = written_agrees w c.requires.consistent c.args.e place at t ws (record row { cells = cells }) same becomes c.mark.new.self store;
        lawful = changed_lawful w c.requires.consistent c.args.e place at t put (state_of (record w { store = c.mark.new.self })) in_place has (buffer_own w.registry t buffers)
            (buffer_fit_with w.registry t c.args.field c.requires.there.kind buffers c.args.k (content_at t row.cells).values c.args.to
            (own_fit w.registry x lawful t (has_in t x.home.types has) (buffer_own w.registry t buffers)));
      };
      puts = values_changed w c.requires.consistent c.args.e place at t put (state_of (record w { store = c.mark.new.self })) in_place;
    }
