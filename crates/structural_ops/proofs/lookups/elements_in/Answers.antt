use Rattle.std.proofs.Common.{ℕ, ◌≡◌, ◌∙◌, ◌<◌, false, true, ap, sym, refl, subst, length, List, Some, None, Option, map}
use Rattle.std.specs.Prelude.{is_some, option_map}
use Rattle.std.proofs.lemmas.List.{length-map}
use Rattle.ent_types.specs.declared.type_info.FieldInfo.{FieldInfo}
use Rattle.ent_types.specs.declared.value.Value.{Value}
use Rattle.ent_types.specs.TypeLookups.{fields_at}
use Rattle.buffer_store.specs.Buffers.{Buffer, buffer}
use Rattle.world_model.specs.Found.{cell_at, values_of}
use Rattle.world_model.specs.Row.{Cell}
use Rattle.block_columns.specs.Types.{IsBuffer}
use Rattle.chunk_block.specs.Blocks.{BlockState, OfType, content_at, row_in}
use Rattle.archetype_store.specs.Stores.{Numbered}
use Rattle.world_places.proofs.Numbers.{of_both, of_more}
use Rattle.world_rows.specs.Reading.{found_at}
use Rattle.structural_ops.specs.Readable.{CanReadType}
use Rattle.structural_ops.proofs.Readable.{at_block}
use Rattle.structural_ops.proofs.Unlent.{cell_has, find_row, has_column, of_column, HasHeld, buffer_own, has_held, no_cell}
use Rattle.structural_ops.proofs.lookups.elements_in.Goals as goal

pub has_in-requires : goal.has_in-requires
has_in-requires c = of_more c.args.place.block (CanReadType c.args.registry.now c.args.ty.0 c.args.place.row) _ c.args.store.now.blocks (λ b r. r.row) c.requires.there

pub returns-then-not-has_in : goal.returns-then-not-has_in
returns-then-not-has_in c =
    of_more c.args.place.block (λ (b : Numbered). false ≡ is_some (values_of c.args.ty.0 (found_at c.args.place.row b)))
    (λ (b : Numbered). None ≡ option_map (λ (d : Cell). buffer (length (fields_at c.args.registry.now c.args.ty.0)) d.values) (cell_at c.args.ty.0 (row_in c.args.place.row b.block.rows).cells)) c.args.store.now.blocks
    (λ b none. no_cell c.args.ty.0 c.args.place.row b none (λ (d : Cell). buffer (length (fields_at c.args.registry.now c.args.ty.0)) d.values)) c.if-not-has_in.ensures

pub block-requires : goal.block-requires
block-requires c = of_more c.args.place.block _ _ c.args.store.now.blocks (λ b is. tt) c.requires.there

pub elements_at-requires-clause-within : goal.elements_at-requires-clause-within
elements_at-requires-clause-within c =
    at_block c.args.place.block (CanReadType c.args.registry.now c.args.ty.0 c.args.place.row) c.args.store.now.blocks c.block.result.now c.block.ensures c.requires.there
    (λ b is r. subst (λ (s : BlockState). c.args.place.row < length s.rows) (sym is) (find_row c.args.registry.now c.args.place.row b r.row))

pub elements_at-requires-clause-there : goal.elements_at-requires-clause-there
elements_at-requires-clause-there c =
    let registry = c.args.registry.now in
    let t = c.args.ty.0 in
    at_block c.args.place.block (HasHeld registry t c.args.place.row) c.args.store.now.blocks c.block.result.now c.block.ensures
    (has_held registry t c.args.place.block c.args.place.row c.args.store.now.blocks c.requires.there c.if-not-has_in.ensures)
    (λ b is h.
    subst (λ (s : BlockState). OfType t IsBuffer s.columns) (sym is)
    (has_column registry t c.args.place.row b h.0 h.1 (buffer_own registry t c.requires.buffer) IsBuffer c.requires.buffer))

pub returns : goal.returns
returns c =
    let registry = c.args.registry.now in
    let t = c.args.ty.0 in
    of_both c.args.place.block (HasHeld registry t c.args.place.row) (λ (b : Numbered). c.block.result.now ≡ b.block)
    (λ (b : Numbered). Some c.elements_at.result.now ≡ option_map (λ (d : Cell). buffer (length (fields_at registry t)) d.values) (cell_at t (row_in c.args.place.row b.block.rows).cells)) c.args.store.now.blocks
    (λ b h is.
    let own = buffer_own registry t c.requires.buffer in
    let vs = (content_at t (row_in c.args.place.row b.block.rows).cells).values in
    let got = of_column registry t c.args.place.row b h.0 h.1 own (λ shape. c.elements_at.result.now ≡ buffer (length shape.kinds) vs)
    (subst (λ (s : BlockState). OfType t (λ shape. c.elements_at.result.now ≡ buffer (length shape.kinds) (content_at t (row_in c.args.place.row s.rows).cells).values) s.columns) is c.elements_at.ensures) in
    ap Some (got ∙ ap (λ n. buffer n vs) (length-map (fields_at registry t) (λ (f : FieldInfo). f.kind)))
    ∙ sym (ap (option_map (buffer (length (fields_at registry t)))) (cell_has registry t c.args.place.row b h.0 h.1 own))
    ∙ maps (cell_at t (row_in c.args.place.row b.block.rows).cells) (length (fields_at registry t)))
    (has_held registry t c.args.place.block c.args.place.row c.args.store.now.blocks c.requires.there c.if-not-has_in.ensures) c.block.ensures
  where
    maps : (o : Option Cell) (n : ℕ) → option_map (buffer n) (option_map (λ (d : Cell). d.values) o) ≡ option_map (λ (d : Cell). buffer n d.values) o
    maps None n = refl
    maps (Some d) n = refl
