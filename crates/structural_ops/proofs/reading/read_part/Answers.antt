use Rattle.std.proofs.Common.{ℕ, ◌≡◌, ◌<◌, ◌∙◌, sym, ap, subst, length, List, Some, arith}
use Rattle.std.proofs.lemmas.Result.{IfOk-weaker}
use Rattle.ent_types.specs.declared.value.Value.{Value}
use Rattle.buffer_store.specs.Buffers.{buffer}
use Rattle.world_model.specs.Found.{part_at}
use Rattle.world_model.specs.Members.{In}
use Rattle.world_model.specs.Part.{PartOf, part_of as seen}
use Rattle.block_columns.specs.Types.{HasField, IsBuffer}
use Rattle.chunk_block.specs.Blocks.{BlockState, OfType, content_at, row_in}
use Rattle.archetype_store.specs.Stores.{Numbered}
use Rattle.world_places.proofs.Numbers.{of_more, of_both}
use Rattle.world_rows.specs.Reading.{CanRead, found_at}
use Rattle.world_rows.specs.Rows.{part_in}
use Rattle.world_rows.proofs.ByType.{own_length, shared_there}
use Rattle.structural_ops.proofs.Readable.{at_block, has_fields, has_shape, read_elements, read_own, read_shared}
use Rattle.structural_ops.proofs.reading.read_part.Goals as goal

abbrev part : ℕ → List Value → PartOf Value
part t vs = record { type_id = t; values = vs }

pub shared_of-requires : goal.shared_of-requires
shared_of-requires c =
    of_more c.args.place.block _ _ c.args.store.now.blocks (λ b is. shared_there c.args.registry.now (found_at c.args.place.row b) is.0.lawful c.args.ty.0 (sym c.if-is_shared.ensures) is.1) c.requires

pub returns-then-is_shared : goal.returns-then-is_shared
returns-then-is_shared c =
    IfOk-weaker c.new_part.result _ _
    (λ p is.
    of_both c.args.place.block (λ (b : Numbered). CanRead c.args.registry.now c.args.place.row b × In c.args.ty.0 b.block.types) (λ (b : Numbered). part_at c.args.ty.0 b.shared ≡ Some c.shared_of.result.now)
    (λ (b : Numbered). seen p ≡ part_in (found_at c.args.place.row b) c.args.ty.0) c.args.store.now.blocks
    (λ b can there.
    is ∙ ap (part c.args.ty.0) (c.as_slice.ensures ∙ read_shared c.args.registry.now c.args.place.row c.args.ty.0 b can.0 can.1 (sym c.if-is_shared.ensures) c.shared_of.result.now there))
    c.requires c.shared_of.ensures)
    c.new_part.ensures

pub block-block-requires : goal.block-block-requires
block-block-requires c = of_more c.args.place.block _ _ c.args.store.now.blocks (λ b is. tt) c.requires

pub elements_at-requires-clause-within : goal.elements_at-requires-clause-within
elements_at-requires-clause-within c =
    at_block c.args.place.block (λ (b : Numbered). CanRead c.args.registry.now c.args.place.row b × In c.args.ty.0 b.block.types) c.args.store.now.blocks c.block-block.result.now c.block-block.ensures c.requires
    (λ b is can. subst (λ (s : BlockState). c.args.place.row < length s.rows) (sym is) can.0.there)

pub elements_at-requires-clause-there : goal.elements_at-requires-clause-there
elements_at-requires-clause-there c =
    at_block c.args.place.block (λ (b : Numbered). CanRead c.args.registry.now c.args.place.row b × In c.args.ty.0 b.block.types) c.args.store.now.blocks c.block-block.result.now c.block-block.ensures c.requires
    (λ b is can.
    subst (λ (s : BlockState). OfType c.args.ty.0 IsBuffer s.columns) (sym is)
    (has_shape c.args.registry.now c.args.place.row c.args.ty.0 b can.0 can.1 (sym c.if-is_shared.ensures) IsBuffer (sym c.if-is_buffer.ensures)))

pub returns-then-is_buffer : goal.returns-then-is_buffer
returns-then-is_buffer c =
    IfOk-weaker c.new_part-then-is_buffer.result _ _
    (λ p is.
    of_both c.args.place.block (λ (b : Numbered). CanRead c.args.registry.now c.args.place.row b × In c.args.ty.0 b.block.types) (λ (b : Numbered). c.block-block.result.now ≡ b.block)
    (λ (b : Numbered). seen p ≡ part_in (found_at c.args.place.row b) c.args.ty.0) c.args.store.now.blocks
    (λ b can same.
    is
    ∙ ap (part c.args.ty.0)
    (c.as_slice-then-is_buffer.ensures
    ∙ read_elements c.args.registry.now c.args.place.row c.args.ty.0 b can.0 can.1 (sym c.if-is_shared.ensures) c.elements_at.result.now
    (subst (λ (s : BlockState). OfType c.args.ty.0 (λ shape. c.elements_at.result.now ≡ buffer (length shape.kinds) (content_at c.args.ty.0 (row_in c.args.place.row s.rows).cells).values) s.columns) same c.elements_at.ensures)))
    c.requires c.block-block.ensures)
    c.new_part-then-is_buffer.ensures

pub field_values-requires-clause-within : goal.field_values-requires-clause-within
field_values-requires-clause-within c =
    at_block c.args.place.block (λ (b : Numbered). CanRead c.args.registry.now c.args.place.row b × In c.args.ty.0 b.block.types) c.args.store.now.blocks c.block-block.result.now c.block-block.ensures c.requires
    (λ b is can. subst (λ (s : BlockState). c.args.place.row < length s.rows) (sym is) can.0.there)

pub field_values-requires-clause-there : goal.field_values-requires-clause-there
field_values-requires-clause-there c f below =
    at_block c.args.place.block (λ (b : Numbered). CanRead c.args.registry.now c.args.place.row b × In c.args.ty.0 b.block.types) c.args.store.now.blocks c.block-block.result.now c.block-block.ensures c.requires
    (λ b is can.
    subst (λ (s : BlockState). OfType c.args.ty.0 (HasField f) s.columns) (sym is)
    (has_fields c.args.registry.now c.args.place.row c.args.ty.0 b can.0 can.1 (sym c.if-is_shared.ensures) (sym c.if-is_buffer.ensures) f (omega (arith, below, ap length c.fields.ensures.value))))

pub field_values-requires-clause-all : goal.field_values-requires-clause-all
field_values-requires-clause-all c =
    at_block c.args.place.block (λ (b : Numbered). CanRead c.args.registry.now c.args.place.row b × In c.args.ty.0 b.block.types) c.args.store.now.blocks c.block-block.result.now c.block-block.ensures c.requires
    (λ b is can.
    ap (λ (s : BlockState). length (content_at c.args.ty.0 (row_in c.args.place.row s.rows).cells).values) is
    ∙ own_length c.args.registry.now (found_at c.args.place.row b) can.0.lawful c.args.ty.0 can.1 (sym c.if-is_shared.ensures) (sym c.if-is_buffer.ensures)
    ∙ sym (ap length c.fields.ensures.value))

pub returns : goal.returns
returns c =
    of_both c.args.place.block (λ (b : Numbered). CanRead c.args.registry.now c.args.place.row b × In c.args.ty.0 b.block.types) (λ (b : Numbered). c.block-block.result.now ≡ b.block)
    (λ (b : Numbered). part c.args.ty.0 c.in_ok-values.values ≡ part_in (found_at c.args.place.row b) c.args.ty.0) c.args.store.now.blocks
    (λ b can same.
    ap (part c.args.ty.0)
    (c.in_ok-values.ensures
    ∙ ap (λ (s : BlockState). (content_at c.args.ty.0 (row_in c.args.place.row s.rows).cells).values) same
    ∙ sym (read_own c.args.registry.now c.args.place.row c.args.ty.0 b can.0 can.1 (sym c.if-is_shared.ensures))))
    c.requires c.block-block.ensures
