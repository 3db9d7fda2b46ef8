use Rattle.std.proofs.Common.{ℕ, ◌≡◌, ◌++◌, ◌∙◌, Bool, Some, Result, Ok, Err, nat_le, not, cond, ap, ap₂, refl, sym, subst, length, true, arith}
use Rattle.std.proofs.lemmas.Bool.{le-leb, lt-leb}
use Rattle.std.proofs.lemmas.Result.{err_from_is_err_and}
use Rattle.std.specs.Prelude.{⊤, OnOk, OnErr}
use Rattle.ent_types.specs.declared.limits.TheConstants.{MOST_ELEMENTS}
use Rattle.ent_types.specs.declared.skip.Skip.TheVariants as skip
use Rattle.ent_types.specs.declared.value.Value.{Value}
use Rattle.ent_types.specs.TypeLookups.{fields_at}
use Rattle.ent_types.proofs.Elements.{length-fits_fields}
use Rattle.buffer_store.specs.Buffers.{Buffer}
use Rattle.buffer_store.specs.declared.fault.PushFault.{PushFault}
use Rattle.buffer_store.specs.declared.fault.PushFault.TheVariants as push
use Rattle.ent_types.specs.declared.entity.Entity.{Entity}
use Rattle.ent_types.specs.TypeSets.{has_type}
use Rattle.world_model.specs.Found.{Found, found}
use Rattle.world_model.specs.Operations.{Append, Done, On, Outcome, Skips, element_count, values_set, with_values as values_with}
use Rattle.world_model.specs.Part.{PartOf, part_of as seen}
use Rattle.archetype_store.specs.Stores.{OfBlock, StoreState, with_block_in}
use Rattle.world_places.proofs.Looking.{none_is}
use Rattle.world_rows.specs.Marks.{block_marked}
use Rattle.world_rows.specs.Reading.{found_at}
use Rattle.world_rows.specs.Writes.{written}
use Rattle.chunk_block.specs.Blocks.{content_at}
use Rattle.structural_ops.specs.Faults.{of_push}
use Rattle.structural_ops.specs.Worlds.{Gives, IsConsistent, WorldState, done, state_of}
use Rattle.structural_ops.proofs.After.{lawful_after}
use Rattle.structural_ops.proofs.Given.{stays_self}
use Rattle.structural_ops.proofs.Decided.{none_gives, skip_gives, write_gives}
use Rattle.structural_ops.proofs.Looked.{entity_there, found_there, of_block}
use Rattle.structural_ops.proofs.Taken.{back_is, can_put_back, can_take, counted, refill, refilled_is, refilled_store, taken_is}
use Rattle.structural_ops.proofs.Written.{can_mark, has_is, its, put_there, written_agrees, written_here}
use Rattle.structural_ops.proofs.elements.append.Goals as goal

pub returns-in_default-clause-gives : goal.returns-in_default-clause-gives
returns-in_default-clause-gives c =
    none_gives (state_of c.args.w.now) c.args.e (Append (seen c.args.part.now)) (none_is c.requires.consistent.agrees.placed c.args.e (sym c.place_of.ensures.value ∙ c.in_default.is))

pub block-requires : goal.block-requires
block-requires c = of_block c.args.w.now c.requires.consistent c.args.e c.in-Some.place (sym c.place_of.ensures.value ∙ c.in-Some.is) (λ _. ⊤) tt

pub returns-then-not-has-clause-gives : goal.returns-then-not-has-clause-gives
returns-then-not-has-clause-gives c =
    let w = c.args.w.now in
    let q = seen c.args.part.now in
    let at = sym c.place_of.ensures.value ∙ c.in-Some.is in
    let x = found_at c.in-Some.place.row (its w c.requires.consistent c.args.e c.in-Some.place at) in
    skip_gives (state_of w) c.args.e (Append q) x (found_there w c.requires.consistent c.args.e c.in-Some.place at) skip.NoComponent
    (ap (λ b. cond (not b) (Skips skip.NoComponent) (cond (nat_le MOST_ELEMENTS (element_count w.registry q.type_id x.row.cells)) (Skips skip.TooLong) (values_set x q.type_id (λ vs. vs ++ q.values))))
    (has_is w c.requires.consistent c.args.e c.in-Some.place at c.block.result.now c.types.result.now q.type_id _ c.block.ensures c.types.ensures.value c.if-not-has.ensures.value))

pub take_elements-elements-requires-clause-there : goal.take_elements-elements-requires-clause-there
take_elements-elements-requires-clause-there c =
    let w = c.args.w.now in
    let t = c.args.part.now.ty.0 in
    let at = sym c.place_of.ensures.value ∙ c.in-Some.is in
    let has = has_is w c.requires.consistent c.args.e c.in-Some.place at c.block.result.now c.types.result.now t true c.block.ensures c.types.ensures.value c.if-not-has.ensures.value in
    can_take w c.requires.consistent c.args.e c.in-Some.place at t (put_there w c.requires.consistent c.args.e c.in-Some.place at t has) c.requires.suits.buffer

pub push-pushed-requires : goal.push-pushed-requires
push-pushed-requires c =
    let w = c.args.w.now in
    let t = c.args.part.now.ty.0 in
    let at = sym c.place_of.ensures.value ∙ c.in-Some.is in
    let has = has_is w c.requires.consistent c.args.e c.in-Some.place at c.block.result.now c.types.result.now t true c.block.ensures c.types.ensures.value c.if-not-has.ensures.value in
    let can = put_there w c.requires.consistent c.args.e c.in-Some.place at t has in
    ap length c.as_slice.ensures
    ∙ length-fits_fields (fields_at w.registry t) c.args.part.now.values c.requires.suits.fit
    ∙ sym (ap (λ (b : Buffer Value). b.width) (taken_is w c.requires.consistent c.args.e c.in-Some.place at t can c.requires.suits.buffer c.take_elements-elements.result c.take_elements-elements.ensures.elements))

-- elements keep their width when one is pushed
pushed_width : (r : Result (Unit {0}) PushFault) (old new more : Buffer Value) → OnOk r (new ≡ more) → OnErr r (new ≡ old) → more.width ≡ old.width → new.width ≡ old.width
pushed_width (Ok u) old new more ok err same = ap (λ (b : Buffer Value). b.width) ok ∙ same
pushed_width (Err f) old new more ok err same = ap (λ (b : Buffer Value). b.width) err

pub put_elements-requires : goal.put_elements-requires
put_elements-requires c =
    let w = c.args.w.now in
    let t = c.args.part.now.ty.0 in
    let at = sym c.place_of.ensures.value ∙ c.in-Some.is in
    let has = has_is w c.requires.consistent c.args.e c.in-Some.place at c.block.result.now c.types.result.now t true c.block.ensures c.types.ensures.value c.if-not-has.ensures.value in
    let can = put_there w c.requires.consistent c.args.e c.in-Some.place at t has in
    can_put_back w c.requires.consistent c.args.e c.in-Some.place at t can c.requires.suits.buffer c.push-pushed.new.self
    (pushed_width c.push-pushed.result c.take_elements-elements.result c.push-pushed.new.self
    (record (c.take_elements-elements.result) { values = c.take_elements-elements.result.values ++ c.as_slice.result.now }) c.push-pushed.ensures.ok c.push-pushed.ensures.err refl
    ∙ ap (λ (b : Buffer Value). b.width) (taken_is w c.requires.consistent c.args.e c.in-Some.place at t can c.requires.suits.buffer c.take_elements-elements.result c.take_elements-elements.ensures.elements))
    c.take_elements-elements.new.store c.take_elements-elements.ensures.store

abbrev outcome : Found → PartOf Value → Bool → Bool → Outcome
outcome x q has full = cond (not has) (Skips skip.NoComponent) (cond full (Skips skip.TooLong) (values_set x q.type_id (λ vs. vs ++ q.values)))

-- why no element was pushed
refused : (old : WorldState) (e : Entity) (q : PartOf Value) (x : Found) → found e old.world.blocks ≡ Some x → has_type x.home.types q.type_id ≡ true
    → (n : ℕ) → element_count old.world.registry q.type_id x.row.cells ≡ n → (cause : PushFault) → (cause ≡ push.TooLong → n ≡ MOST_ELEMENTS) → Gives old old (On e (Append q)) (done (Err (of_push cause)))
refused old e q x is has n count push.TooLong so =
    skip_gives old e (Append q) x is skip.TooLong (ap₂ (outcome x q) has (ap (nat_le MOST_ELEMENTS) count ∙ le-leb MOST_ELEMENTS n (omega (arith, so refl))))
refused old e q x is has n count push.Memory so = stays_self old

pub returns-in_err-pushed : goal.returns-in_err-pushed
returns-in_err-pushed c =
    let w = c.args.w.now in
    let q = seen c.args.part.now in
    let t = q.type_id in
    let place = c.in-Some.place in
    let at = sym c.place_of.ensures.value ∙ c.in-Some.is in
    let has = has_is w c.requires.consistent c.args.e place at c.block.result.now c.types.result.now t true c.block.ensures c.types.ensures.value c.if-not-has.ensures.value in
    let can = put_there w c.requires.consistent c.args.e place at t has in
    let x = found_at place.row (its w c.requires.consistent c.args.e place at) in
    let taken = taken_is w c.requires.consistent c.args.e place at t can c.requires.suits.buffer c.take_elements-elements.result c.take_elements-elements.ensures.elements in
    let store : c.put_elements.new.self ≡ w.store =
    refilled_store w c.requires.consistent c.args.e place at t can c.requires.suits.buffer c.take_elements-elements.new.store c.put_elements.new.self c.push-pushed.new.self (content_at t x.row.cells).values
    c.take_elements-elements.ensures.store c.put_elements.ensures.new (ap (λ (b : Buffer Value). b.values) (c.in_err-pushed.ensures.err ∙ taken))
    ∙ back_is w c.requires.consistent c.args.e place at t can c.requires.suits.buffer in
    let count = counted w c.requires.consistent c.args.e place at t can c.requires.suits.buffer c.take_elements-elements.result taken in
    let (f, failed, is_fault) = err_from_is_err_and c.from_residual.result c.from_residual.ensures.1 in
    record {
      consistent = subst (λ (s : StoreState). IsConsistent (record w { store = s })) (sym store) c.requires.consistent;
      gives = subst (λ (s : StoreState). Gives (state_of w) (state_of (record w { store = s })) (On c.args.e (Append q)) (done c.from_residual.result)) (sym store)
          (subst (λ r. Gives (state_of w) (state_of w) (On c.args.e (Append q)) (done r)) (sym (failed ∙ ap Err is_fault))
          (refused (state_of w) c.args.e q x (found_there w c.requires.consistent c.args.e place at) has _ count c.in_err-pushed.field-0.0 c.in_err-pushed.ensures.answer.0));
    }

pub mark-requires : goal.mark-requires
mark-requires c =
    let w = c.args.w.now in
    let t = c.args.part.now.ty.0 in
    let place = c.in-Some.place in
    let at = sym c.place_of.ensures.value ∙ c.in-Some.is in
    let has = has_is w c.requires.consistent c.args.e place at c.block.result.now c.types.result.now t true c.block.ensures c.types.ensures.value c.if-not-has.ensures.value in
    let can = put_there w c.requires.consistent c.args.e place at t has in
    subst (λ (s : StoreState). OfBlock place.block (λ _. ⊤) s.blocks)
    (sym (refilled_store w c.requires.consistent c.args.e place at t can c.requires.suits.buffer c.take_elements-elements.new.store c.put_elements.new.self c.push-pushed.new.self c.push-pushed.new.self.values
    c.take_elements-elements.ensures.store c.put_elements.ensures.new refl))
    (can_mark w c.requires.consistent c.args.e place at (refill t (length (fields_at w.registry t)) c.push-pushed.new.self.values))

pub returns : goal.returns
returns c =
    let w = c.args.w.now in
    let q = seen c.args.part.now in
    let t = q.type_id in
    let place = c.in-Some.place in
    let at = sym c.place_of.ensures.value ∙ c.in-Some.is in
    let has = has_is w c.requires.consistent c.args.e place at c.block.result.now c.types.result.now t true c.block.ensures c.types.ensures.value c.if-not-has.ensures.value in
    let can = put_there w c.requires.consistent c.args.e place at t has in
    let x = found_at place.row (its w c.requires.consistent c.args.e place at) in
    let cells = values_with t (λ vs. vs ++ q.values) x.row.cells in
    let ws = refill t (length (fields_at w.registry t)) ((content_at t x.row.cells).values ++ q.values) in
    let taken = taken_is w c.requires.consistent c.args.e place at t can c.requires.suits.buffer c.take_elements-elements.result c.take_elements-elements.ensures.elements in
    let store : c.mark.new.self ≡ with_block_in place.block (block_marked t w.version.0) (written place.block place.row ws w.store) =
    c.mark.ensures
    ∙ ap (with_block_in place.block (block_marked t w.version.0))
    (refilled_store w c.requires.consistent c.args.e place at t can c.requires.suits.buffer c.take_elements-elements.new.store c.put_elements.new.self c.push-pushed.new.self ((content_at t x.row.cells).values ++ q.values)
    c.take_elements-elements.ensures.store c.put_elements.ensures.new
    (ap (λ (b : Buffer Value). b.values) c.in_ok-pushed.ensures.ok ∙ ap₂ (λ (b : Buffer Value) vs. b.values ++ vs) taken c.as_slice.ensures)) in
    let becomes = refilled_is w c.requires.consistent c.args.e place at t can c.requires.suits.buffer (λ vs. vs ++ q.values) in
    let same = entity_there w c.requires.consistent c.args.e place at in
    let count = counted w c.requires.consistent c.args.e place at t can c.requires.suits.buffer c.take_elements-elements.result taken in
    let gives = write_gives (state_of w) c.args.e (Append q) x (found_there w c.requires.consistent c.args.e place at) (state_of (record w { store = c.mark.new.self })) t cells
    (ap₂ (outcome x q) has (ap (nat_le MOST_ELEMENTS) count ∙ lt-leb MOST_ELEMENTS _ c.in_ok-pushed.ensures.answer))
    same
    (written_here w c.requires.consistent c.args.e place at t ws (record (x.row) { cells = cells }) same becomes c.mark.new.self store) in
    record {
      consistent = record {
        agrees = written_agrees w c.requires.consistent c.args.e place at t ws (record (x.row) { cells = cells }) same becomes c.mark.new.self store;
        lawful = lawful_after (state_of w) (state_of (record w { store = c.mark.new.self })) (On c.args.e (Append q)) (Ok Done) c.requires.suits c.requires.consistent.lawful gives;
      };
      gives = gives;
    }
