use Rattle.std.proofs.Common.{ℕ, pos, ◌≡◌, ◌∙◌, ◌<◌, ◌≤◌, false, true, ap, sym, refl, subst, length, List, Some, None, Option, slice_get, map, arith}
use Rattle.std.specs.Option.{IsSome}
use Rattle.std.specs.Prelude.{is_some, option_and_then}
use Rattle.std.proofs.lemmas.List.{length-map}
use Rattle.std.proofs.lemmas.Option.{slice_get_past, slice_get-get_or}
use Rattle.ent_types.specs.declared.type_info.FieldInfo.{FieldInfo}
use Rattle.ent_types.specs.declared.value.Value.{Value}
use Rattle.ent_types.specs.declared.value.Value.TheVariants.{Int}
use Rattle.ent_types.specs.TypeLookups.{fields_at}
use Rattle.world_model.specs.Found.{part_at, values_of}
use Rattle.block_columns.specs.Types.{HasField}
use Rattle.chunk_block.specs.Blocks.{BlockState, OfType, content_at, field_at, row_in}
use Rattle.archetype_store.specs.Stores.{Numbered}
use Rattle.world_places.proofs.Numbers.{of_both, of_more}
use Rattle.world_rows.specs.Reading.{found_at}
use Rattle.structural_ops.specs.Readable.{CanReadType}
use Rattle.structural_ops.proofs.Readable.{at_block}
use Rattle.structural_ops.proofs.Unlent.{find_row, has_column, none_of, own_are, own_long, shared_some, shared_values, HasHeld, has_held}
use Rattle.structural_ops.proofs.lookups.value_in.Goals as goal

pub has_in-requires : goal.has_in-requires
has_in-requires c = of_more c.args.place.block (CanReadType c.args.registry.now c.args.ty.0 c.args.place.row) _ c.args.store.now.blocks (λ b r. r.row) c.requires.there

pub returns-then-not-has_in : goal.returns-then-not-has_in
returns-then-not-has_in c =
    of_more c.args.place.block (λ (b : Numbered). false ≡ is_some (values_of c.args.ty.0 (found_at c.args.place.row b)))
    (λ (b : Numbered). None ≡ option_and_then (λ (vs : List Value). slice_get vs c.args.field) (values_of c.args.ty.0 (found_at c.args.place.row b))) c.args.store.now.blocks
    (λ b none. none_of (λ (vs : List Value). slice_get vs c.args.field) (values_of c.args.ty.0 (found_at c.args.place.row b)) none) c.if-not-has_in.ensures

pub shared_of-requires : goal.shared_of-requires
shared_of-requires c =
    let registry = c.args.registry.now in
    let t = c.args.ty.0 in
    of_more c.args.place.block (HasHeld registry t c.args.place.row) (λ (b : Numbered). IsSome (part_at t b.shared)) c.args.store.now.blocks
    (λ b h. shared_some registry t c.args.place.row b h.0 h.1 (sym c.if-is_shared.ensures))
    (has_held registry t c.args.place.block c.args.place.row c.args.store.now.blocks c.requires.there c.if-not-has_in.ensures)

pub returns-then-is_shared : goal.returns-then-is_shared
returns-then-is_shared c =
    let registry = c.args.registry.now in
    let t = c.args.ty.0 in
    of_both c.args.place.block (HasHeld registry t c.args.place.row) (λ (b : Numbered). part_at t b.shared ≡ Some c.shared_of.result.now)
    (λ (b : Numbered). c.copied.result ≡ option_and_then (λ (vs : List Value). slice_get vs c.args.field) (values_of t (found_at c.args.place.row b))) c.args.store.now.blocks
    (λ b h is.
    c.copied.ensures
    ∙ c.get.ensures.value
    ∙ ap (option_and_then (λ (vs : List Value). slice_get vs c.args.field)) (sym (shared_values registry t c.args.place.row b h.0 h.1 (sym c.if-is_shared.ensures) ∙ is)))
    (has_held registry t c.args.place.block c.args.place.row c.args.store.now.blocks c.requires.there c.if-not-has_in.ensures) c.shared_of.ensures

pub returns-then-from-fields : goal.returns-then-from-fields
returns-then-from-fields c =
    let registry = c.args.registry.now in
    let t = c.args.ty.0 in
    of_more c.args.place.block (HasHeld registry t c.args.place.row)
    (λ (b : Numbered). None ≡ option_and_then (λ (vs : List Value). slice_get vs c.args.field) (values_of t (found_at c.args.place.row b))) c.args.store.now.blocks
    (λ b h.
    let own = sym c.if-is_shared.ensures in
    let vs = (content_at t (row_in c.args.place.row b.block.rows).cells).values in
    let long = own_long registry t c.args.place.row b h.0 h.1 own c.requires.plain in
    let past : length vs ≤ c.args.field = (let few = c.if-from-fields.true in let from = c.from.ensures in let size = ap length c.fields.ensures.value in omega arith) in
    sym (ap (option_and_then (λ (us : List Value). slice_get us c.args.field)) (own_are registry t c.args.place.row b h.0 h.1 own) ∙ slice_get_past vs c.args.field past))
    (has_held registry t c.args.place.block c.args.place.row c.args.store.now.blocks c.requires.there c.if-not-has_in.ensures)

pub block-requires : goal.block-requires
block-requires c = of_more c.args.place.block _ _ c.args.store.now.blocks (λ b is. tt) c.requires.there

pub field_get-requires-clause-within : goal.field_get-requires-clause-within
field_get-requires-clause-within c =
    at_block c.args.place.block (CanReadType c.args.registry.now c.args.ty.0 c.args.place.row) c.args.store.now.blocks c.block.result.now c.block.ensures c.requires.there
    (λ b is r. subst (λ (s : BlockState). c.args.place.row < length s.rows) (sym is) (find_row c.args.registry.now c.args.place.row b r.row))

pub field_get-requires-clause-there : goal.field_get-requires-clause-there
field_get-requires-clause-there c =
    let registry = c.args.registry.now in
    let t = c.args.ty.0 in
    at_block c.args.place.block (HasHeld registry t c.args.place.row) c.args.store.now.blocks c.block.result.now c.block.ensures
    (has_held registry t c.args.place.block c.args.place.row c.args.store.now.blocks c.requires.there c.if-not-has_in.ensures)
    (λ b is h.
    let below : c.args.field < length (map (λ (f : FieldInfo). f.kind) (fields_at registry t)) =
    (let more = c.if-from-fields.false in let from = c.from.ensures in let size = ap length c.fields.ensures.value in let same = length-map (fields_at registry t) (λ (f : FieldInfo). f.kind) in omega arith) in
    subst (λ (s : BlockState). OfType t (HasField c.args.field) s.columns) (sym is)
    (has_column registry t c.args.place.row b h.0 h.1 (sym c.if-is_shared.ensures) (HasField c.args.field) (c.requires.plain, below)))

pub returns : goal.returns
returns c =
    let registry = c.args.registry.now in
    let t = c.args.ty.0 in
    of_both c.args.place.block (HasHeld registry t c.args.place.row) (λ (b : Numbered). c.block.result.now ≡ b.block)
    (λ (b : Numbered). Some c.field_get.result ≡ option_and_then (λ (vs : List Value). slice_get vs c.args.field) (values_of t (found_at c.args.place.row b))) c.args.store.now.blocks
    (λ b h is.
    let own = sym c.if-is_shared.ensures in
    let vs = (content_at t (row_in c.args.place.row b.block.rows).cells).values in
    let long = own_long registry t c.args.place.row b h.0 h.1 own c.requires.plain in
    let below : c.args.field < length vs = (let more = c.if-from-fields.false in let from = c.from.ensures in let size = ap length c.fields.ensures.value in omega arith) in
    ap Some (c.field_get.ensures ∙ ap (λ (s : BlockState). field_at t c.args.field (row_in c.args.place.row s.rows)) is)
    ∙ sym (slice_get-get_or vs c.args.field (Int (pos 0)) below)
    ∙ sym (ap (option_and_then (λ (us : List Value). slice_get us c.args.field)) (own_are registry t c.args.place.row b h.0 h.1 own)))
    (has_held registry t c.args.place.block c.args.place.row c.args.store.now.blocks c.requires.there c.if-not-has_in.ensures) c.block.ensures
