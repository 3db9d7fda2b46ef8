use Rattle.std.proofs.Common.{ℕ, ◌≡◌, ◌<◌, ◌≤◌, ◌∙◌, Option, Some, None, List, slice_get, ap, refl, sym, subst, length, arith}
use Rattle.std.specs.Option.{IsSome}
use Rattle.ent_types.specs.TypeLookups.{fields_at}
use Rattle.ent_types.specs.TypeSets.{has_type}
use Rattle.ent_types.specs.declared.value.Value.{Value}
use Rattle.world_model.specs.Fits.{IsKnown}
use Rattle.world_model.specs.Found.{part_at}
use Rattle.entity_table.specs.Table.{place_of}
use Rattle.block_columns.specs.Types.{HasField}
use Rattle.chunk_block.specs.Blocks.{BlockState, OfType, field_at, row_in}
use Rattle.archetype_store.specs.Stores.{Numbered, OfNumber}
use Rattle.world_places.proofs.Numbers.{of_both}
use Rattle.structural_ops.specs.Reads.{CanSee, field_seen}
use Rattle.structural_ops.proofs.Readable.{at_block, has_at}
use Rattle.structural_ops.proofs.Seen.{block_seen, field_here, field_past, nowhere, seeing, seen_at, seen_column, seen_lacks, seen_shared}
use Rattle.structural_ops.proofs.reads.field_of.Goals as goal

pub returns-in_err-place : goal.returns-in_err-place
returns-in_err-place c =
    nowhere c.args.registry.now c.args.ty.0 (place_of c.args.table.now.table c.args.e) c.args.store.now.blocks c.requires.there c.from_residual.result (field_seen c.args.field)
    (sym c.place_of.ensures.value ∙ c.in_err-place.was) c.from_residual.ensures

pub block-block-requires : goal.block-block-requires
block-block-requires c =
    block_seen c.args.registry.now c.args.ty.0 (place_of c.args.table.now.table c.args.e) c.args.store.now.blocks c.requires.there c.in_ok-place.place (sym c.place_of.ensures.value ∙ c.in_ok-place.was)

pub has-requires : goal.has-requires
has-requires c has =
    at_block c.in_ok-place.place.block (CanSee c.args.registry.now c.args.ty.0 c.in_ok-place.place.row) c.args.store.now.blocks c.block-block.result.now c.block-block.ensures
    (seeing c.args.registry.now c.args.ty.0 (place_of c.args.table.now.table c.args.e) c.args.store.now.blocks c.requires.there c.in_ok-place.place (sym c.place_of.ensures.value ∙ c.in_ok-place.was))
    (λ b is can. can.known (has_at b.block c.block-block.result.now c.types.result.now c.args.ty.0 _ is c.types.ensures.value (sym has)))

pub returns-then-not-has : goal.returns-then-not-has
returns-then-not-has c =
    seen_at c.args.registry.now c.args.ty.0 (place_of c.args.table.now.table c.args.e) c.args.store.now.blocks c.requires.there c.in_ok-place.place (sym c.place_of.ensures.value ∙ c.in_ok-place.was)
    None (field_seen c.args.field) (λ (b : Numbered). c.block-block.result.now ≡ b.block) c.block-block.ensures
    (λ b is can.
    sym (ap (field_seen c.args.field) (seen_lacks c.args.registry.now c.args.ty.0 c.in_ok-place.place.row b (has_at b.block c.block-block.result.now c.types.result.now c.args.ty.0 _ is c.types.ensures.value c.if-not-has.ensures))))

pub shared_of-requires : goal.shared_of-requires
shared_of-requires c =
    of_both c.in_ok-place.place.block (λ (b : Numbered). c.block-block.result.now ≡ b.block) (CanSee c.args.registry.now c.args.ty.0 c.in_ok-place.place.row) (λ (b : Numbered). IsSome (part_at c.args.ty.0 b.shared))
    c.args.store.now.blocks
    (λ b is can. can.shared (has_at b.block c.block-block.result.now c.types.result.now c.args.ty.0 _ is c.types.ensures.value c.if-not-has.ensures) (sym c.if-is_shared.ensures))
    c.block-block.ensures
    (seeing c.args.registry.now c.args.ty.0 (place_of c.args.table.now.table c.args.e) c.args.store.now.blocks c.requires.there c.in_ok-place.place (sym c.place_of.ensures.value ∙ c.in_ok-place.was))

pub returns-then-is_shared : goal.returns-then-is_shared
returns-then-is_shared c =
    seen_at c.args.registry.now c.args.ty.0 (place_of c.args.table.now.table c.args.e) c.args.store.now.blocks c.requires.there c.in_ok-place.place (sym c.place_of.ensures.value ∙ c.in_ok-place.was)
    c.copied.result (field_seen c.args.field) (λ (b : Numbered). (c.block-block.result.now ≡ b.block) × (part_at c.args.ty.0 b.shared ≡ Some c.shared_of.result.now))
    (of_both c.in_ok-place.place.block (λ (b : Numbered). c.block-block.result.now ≡ b.block) (λ (b : Numbered). part_at c.args.ty.0 b.shared ≡ Some c.shared_of.result.now) _ c.args.store.now.blocks
    (λ b is there. (is, there)) c.block-block.ensures c.shared_of.ensures)
    (λ b is can.
    c.copied.ensures
    ∙ c.get.ensures.value
    ∙ ap (slice_get c.shared_of.result.now) c.from.ensures
    ∙ sym (ap (field_seen c.args.field)
    (seen_shared c.args.registry.now c.args.ty.0 c.in_ok-place.place.row b
    (has_at b.block c.block-block.result.now c.types.result.now c.args.ty.0 _ is.0 c.types.ensures.value c.if-not-has.ensures) (sym c.if-is_shared.ensures) ∙ is.1)))

pub returns-then-from-fields : goal.returns-then-from-fields
returns-then-from-fields c =
    seen_at c.args.registry.now c.args.ty.0 (place_of c.args.table.now.table c.args.e) c.args.store.now.blocks c.requires.there c.in_ok-place.place (sym c.place_of.ensures.value ∙ c.in_ok-place.was)
    None (field_seen c.args.field) (λ (b : Numbered). c.block-block.result.now ≡ b.block) c.block-block.ensures
    (λ b is can.
    field_past c.args.registry.now c.args.ty.0 c.in_ok-place.place.row b can
    (has_at b.block c.block-block.result.now c.types.result.now c.args.ty.0 _ is c.types.ensures.value c.if-not-has.ensures) (sym c.if-is_shared.ensures) c.requires.plain c.args.field
    (omega (arith, c.if-from-fields.true, c.from-2.ensures, ap length c.fields.ensures.value)))

pub field_get-requires-clause-within : goal.field_get-requires-clause-within
field_get-requires-clause-within c =
    at_block c.in_ok-place.place.block (CanSee c.args.registry.now c.args.ty.0 c.in_ok-place.place.row) c.args.store.now.blocks c.block-block.result.now c.block-block.ensures
    (seeing c.args.registry.now c.args.ty.0 (place_of c.args.table.now.table c.args.e) c.args.store.now.blocks c.requires.there c.in_ok-place.place (sym c.place_of.ensures.value ∙ c.in_ok-place.was))
    (λ b is can. subst (λ (s : BlockState). c.in_ok-place.place.row < length s.rows) (sym is) can.there)

pub field_get-requires-clause-there : goal.field_get-requires-clause-there
field_get-requires-clause-there c =
    at_block c.in_ok-place.place.block (CanSee c.args.registry.now c.args.ty.0 c.in_ok-place.place.row) c.args.store.now.blocks c.block-block.result.now c.block-block.ensures
    (seeing c.args.registry.now c.args.ty.0 (place_of c.args.table.now.table c.args.e) c.args.store.now.blocks c.requires.there c.in_ok-place.place (sym c.place_of.ensures.value ∙ c.in_ok-place.was))
    (λ b is can.
    subst (λ (s : BlockState). OfType c.args.ty.0 (HasField c.args.field) s.columns) (sym is)
    (seen_column c.args.registry.now c.args.ty.0 c.in_ok-place.place.row b can
    (has_at b.block c.block-block.result.now c.types.result.now c.args.ty.0 _ is c.types.ensures.value c.if-not-has.ensures) (sym c.if-is_shared.ensures) c.requires.plain c.args.field
    (omega (arith, c.if-from-fields.false, c.from-2.ensures, ap length c.fields.ensures.value))))

pub returns : goal.returns
returns c =
    seen_at c.args.registry.now c.args.ty.0 (place_of c.args.table.now.table c.args.e) c.args.store.now.blocks c.requires.there c.in_ok-place.place (sym c.place_of.ensures.value ∙ c.in_ok-place.was)
    (Some c.field_get.result) (field_seen c.args.field) (λ (b : Numbered). c.block-block.result.now ≡ b.block) c.block-block.ensures
    (λ b is can.
    ap Some (c.field_get.ensures ∙ ap (λ (s : BlockState). field_at c.args.ty.0 c.args.field (row_in c.in_ok-place.place.row s.rows)) is)
    ∙ field_here c.args.registry.now c.args.ty.0 c.in_ok-place.place.row b can
    (has_at b.block c.block-block.result.now c.types.result.now c.args.ty.0 _ is c.types.ensures.value c.if-not-has.ensures) (sym c.if-is_shared.ensures) c.requires.plain c.args.field
    (omega (arith, c.if-from-fields.false, c.from-2.ensures, ap length c.fields.ensures.value)))
