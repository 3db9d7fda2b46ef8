use Rattle.std.proofs.Common.{ℕ, ◌≡◌, ◌<◌, ◌∷◌, [], ◌∙◌, List, ap, refl, sym, subst, length, set}
use Rattle.std.specs.Prelude.{⊤}
use Rattle.ent_types.specs.declared.value.Value.{Value}
use Rattle.ent_types.specs.declared.value.Value.TheVariants.{Ref}
use Rattle.world_laws.proofs.Types.{has_in}
use Rattle.world_model.specs.Operations.{with_values as values_with}
use Rattle.block_columns.specs.Types.{TakesValue, with_value}
use Rattle.chunk_block.specs.Blocks.{content_at}
use Rattle.archetype_store.specs.Stores.{OfBlock, StoreState, with_block_in}
use Rattle.world_places.proofs.Looking.{none_is}
use Rattle.world_rows.specs.Marks.{block_marked}
use Rattle.world_rows.specs.Reading.{found_at}
use Rattle.world_rows.specs.Writes.{Field, Write, written}
use Rattle.world_rows.proofs.ByType.{own_fit}
use Rattle.world_rows.proofs.Composed.{can_first}
use Rattle.world_rows.proofs.Fitting.{of_type_new}
use Rattle.world_rows.proofs.References.{plain_fit_with, takes_reference}
use Rattle.world_rows.proofs.Rewritten.{content_put}
use Rattle.structural_ops.specs.Worlds.{state_of}
use Rattle.structural_ops.proofs.Looked.{entity_there, lawful_there}
use Rattle.structural_ops.proofs.References.{changed_lawful, its_types, lacks_none, values_changed}
use Rattle.structural_ops.proofs.Written.{can_mark, can_write, its, its_row, written_agrees, written_here}
use Rattle.structural_ops.proofs.values.put_ref.Goals as goal

pub unreachable-requires : goal.unreachable-requires
unreachable-requires c =
    lacks_none (state_of c.args.w.now).world c.args.e c.args.ty.0 (none_is c.requires.consistent.agrees.placed c.args.e (sym c.place_of.ensures.value ∙ c.in-None.is)) c.requires.there.there

pub field_set-requires : goal.field_set-requires
field_set-requires c =
    let w = c.args.w.now in
    let t = c.args.ty.0 in
    let at = sym c.place_of.ensures.value ∙ c.in-Some.is in
    let i = has_in t (its w c.requires.consistent c.args.e c.in-Some.place at).block.types (its_types w c.requires.consistent c.args.e c.in-Some.place at t c.requires.there.there) in
    can_first c.in-Some.place.block c.in-Some.place.row (Field t c.args.field (Ref c.args.to)) [] w.store
    (can_write w c.requires.consistent c.args.e c.in-Some.place at (Field t c.args.field (Ref c.args.to) ∷ []) (
      of_type_new w.registry t (TakesValue c.args.field (Ref c.args.to)) (its w c.requires.consistent c.args.e c.in-Some.place at).block.types i c.requires.there.own
          (takes_reference w.registry t c.args.field c.requires.there.kind c.requires.there.plain c.args.to),
      tt,
    ))

pub mark-requires : goal.mark-requires
mark-requires c =
    subst (λ (s : StoreState). OfBlock c.in-Some.place.block (λ _. ⊤) s.blocks) (sym c.field_set.ensures)
    (can_mark c.args.w.now c.requires.consistent c.args.e c.in-Some.place (sym c.place_of.ensures.value ∙ c.in-Some.is) (Field c.args.ty.0 c.args.field (Ref c.args.to) ∷ []))

pub returns : goal.returns
returns c =
    let w = c.args.w.now in
    let t = c.args.ty.0 in
    let place = c.in-Some.place in
    let at = sym c.place_of.ensures.value ∙ c.in-Some.is in
    let row = its_row w c.requires.consistent c.args.e place at in
    let x = found_at place.row (its w c.requires.consistent c.args.e place at) in
    let lawful = lawful_there w c.requires.consistent c.args.e place at in
    let has = its_types w c.requires.consistent c.args.e place at t c.requires.there.there in
    let put : List Value → List Value = λ values. set values c.args.field (Ref c.args.to) in
    let cells = values_with t put row.cells in
    let ws = Field t c.args.field (Ref c.args.to) ∷ [] in
    let store : c.mark.new.self ≡ with_block_in place.block (block_marked t w.version.0) (written place.block place.row ws w.store) =
    c.mark.ensures ∙ ap (with_block_in place.block (block_marked t w.version.0)) c.field_set.ensures in
    let becomes = content_put w.registry x lawful t (with_value c.args.field (Ref c.args.to)) put (λ content. refl) in
    let same = entity_there w c.requires.consistent c.args.e place at in
    let in_place = written_here w c.requires.consistent c.args.e place at t ws (record row { cells = cells }) same becomes c.mark.new.self store in
    record {
      consistent = record {
        agrees = written_agrees w c.requires.consistent c.args.e place at t ws (record row { cells = cells }) same becomes c.mark.new.self store;
        lawful = changed_lawful w c.requires.consistent c.args.e place at t put (state_of (record w { store = c.mark.new.self })) in_place has c.requires.there.own
            (plain_fit_with w.registry t c.args.field c.requires.there.kind c.requires.there.plain (content_at t row.cells).values c.args.to
            (own_fit w.registry x lawful t (has_in t x.home.types has) c.requires.there.own));
      };
      puts = values_changed w c.requires.consistent c.args.e place at t put (state_of (record w { store = c.mark.new.self })) in_place;
    }
