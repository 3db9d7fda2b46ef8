use Rattle.std.proofs.Common.{◌≡◌, ◌<◌, ◌∷◌, [], ◌∙◌, ap, refl, sym, subst, length}
use Rattle.std.specs.Prelude.{⊤}
use Rattle.ent_types.specs.declared.value.Value.{Value}
use Rattle.ent_types.specs.TypeLookups.{fields_at}
use Rattle.buffer_store.specs.Buffers.{Buffer}
use Rattle.world_model.specs.Part.{part_of as seen}
use Rattle.block_columns.specs.Types.{TakesElements}
use Rattle.chunk_block.specs.Blocks.{OfType}
use Rattle.archetype_store.specs.Stores.{OfBlock, StoreState, with_block_in}
use Rattle.world_rows.specs.Reading.{found_at}
use Rattle.world_rows.proofs.Rewritten.{buffer_put}
use Rattle.world_rows.specs.Marks.{block_marked}
use Rattle.world_rows.specs.Types.{row_put}
use Rattle.world_rows.specs.Writes.{Elements, written}
use Rattle.world_rows.proofs.Fitting.{elements_take}
use Rattle.world_rows.proofs.Composed.{can_first}
use Rattle.structural_ops.proofs.Looked.{entity_there, lawful_there}
use Rattle.structural_ops.proofs.Written.{can_mark, can_write, its, its_row, put_at, put_type, written_agrees, written_at}
use Rattle.structural_ops.proofs.puts.put_buffer.Goals as goal

pub returns-in_err-elements-clause-agrees : goal.returns-in_err-elements-clause-agrees
returns-in_err-elements-clause-agrees c = c.requires.consistent.agrees

pub put_elements-requires : goal.put_elements-requires
put_elements-requires c =
    let w = c.args.w.now in
    let t = c.args.part.now.ty.0 in
    let (e, at) = put_at w t c.args.place c.requires.there in
    let write = Elements t (length (fields_at w.registry t)) c.as_slice.result.now in
    subst (λ (new : Buffer Value). OfBlock c.args.place.block (λ b. (c.args.place.row < length b.rows) × OfType t (TakesElements new) b.columns) w.store.blocks) (sym c.in_ok-elements.ensures)
    (can_first c.args.place.block c.args.place.row write [] w.store
    (can_write w c.requires.consistent e c.args.place at (write ∷ [])
    (elements_take w.registry (its w c.requires.consistent e c.args.place at).block.types t (put_type w c.requires.consistent e c.args.place at t c.requires.there) c.requires.buffer c.as_slice.result.now, tt)))

pub mark-requires : goal.mark-requires
mark-requires c =
    let w = c.args.w.now in
    let (e, at) = put_at w c.args.part.now.ty.0 c.args.place c.requires.there in
    subst (λ (s : StoreState). OfBlock c.args.place.block (λ _. ⊤) s.blocks) (sym c.put_elements.ensures.new)
    (can_mark w c.requires.consistent e c.args.place at (Elements c.args.part.now.ty.0 0 c.in_ok-elements.elements.values ∷ []))

pub returns : goal.returns
returns c =
    let w = c.args.w.now in
    let t = c.args.part.now.ty.0 in
    let vs = c.args.part.now.values in
    let (e, at) = put_at w t c.args.place c.requires.there in
    let ws = Elements t 0 vs ∷ [] in
    let store : c.mark.new.self ≡ with_block_in c.args.place.block (block_marked t w.version.0) (written c.args.place.block c.args.place.row ws w.store) =
    c.mark.ensures
    ∙ ap (with_block_in c.args.place.block (block_marked t w.version.0))
    (c.put_elements.ensures.new ∙ ap (λ (new : Buffer Value). written c.args.place.block c.args.place.row (Elements t 0 new.values ∷ []) w.store) c.in_ok-elements.ensures
    ∙ ap (λ us. written c.args.place.block c.args.place.row (Elements t 0 us ∷ []) w.store) c.as_slice.ensures) in
    let row = its_row w c.requires.consistent e c.args.place at in
    let becomes = buffer_put w.registry (found_at c.args.place.row (its w c.requires.consistent e c.args.place at)) (lawful_there w c.requires.consistent e c.args.place at) t vs in
    let same = entity_there w c.requires.consistent e c.args.place at in
    record {
      agrees = written_agrees w c.requires.consistent e c.args.place at t ws (row_put (seen c.args.part.now) row) same becomes c.mark.new.self store;
      puts = written_at w c.requires.consistent e c.args.place at t ws (row_put (seen c.args.part.now) row) same becomes c.mark.new.self store (row_put (seen c.args.part.now)) refl;
      err = tt;
    }
