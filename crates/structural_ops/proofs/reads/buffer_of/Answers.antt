use Rattle.std.proofs.Common.{ℕ, ◌≡◌, ◌<◌, ◌∙◌, Option, Some, None, List, option_map, ap, refl, sym, subst, length}
use Rattle.ent_types.specs.TypeLookups.{fields_at}
use Rattle.ent_types.specs.TypeSets.{has_type}
use Rattle.ent_types.specs.declared.value.Value.{Value}
use Rattle.entity_table.specs.Table.{place_of}
use Rattle.buffer_store.specs.Buffers.{Buffer, buffer}
use Rattle.block_columns.specs.Types.{IsBuffer}
use Rattle.chunk_block.specs.Blocks.{BlockState, OfType, content_at, row_in}
use Rattle.archetype_store.specs.Stores.{Numbered, OfNumber}
use Rattle.world_rows.proofs.Fitting.{buffer_own}
use Rattle.structural_ops.specs.Reads.{CanSee}
use Rattle.structural_ops.proofs.Readable.{at_block, has_at}
use Rattle.structural_ops.proofs.Seen.{block_seen, elements_here, nowhere, seeing, seen_at, seen_lacks, seen_shape}
use Rattle.structural_ops.proofs.reads.buffer_of.Goals as goal

pub returns-in_err-place : goal.returns-in_err-place
returns-in_err-place c =
    nowhere c.args.registry.now c.args.ty.0 (place_of c.args.table.now.table c.args.e) c.args.store.now.blocks c.requires.there (option_map (λ x. x.now) c.from_residual.result)
    (option_map (buffer (length (fields_at c.args.registry.now c.args.ty.0)))) (sym c.place_of.ensures.value ∙ c.in_err-place.was) (ap (option_map _) c.from_residual.ensures)

pub block-block-requires : goal.block-block-requires
block-block-requires c =
    block_seen c.args.registry.now c.args.ty.0 (place_of c.args.table.now.table c.args.e) c.args.store.now.blocks c.requires.there c.in_ok-place.place (sym c.place_of.ensures.value ∙ c.in_ok-place.was)

pub has-requires : goal.has-requires
has-requires c has =
    at_block c.in_ok-place.place.block (CanSee c.args.registry.now c.args.ty.0 c.in_ok-place.place.row) c.args.store.now.blocks c.block-block.result.now c.block-block.ensures
    (seeing c.args.registry.now c.args.ty.0 (place_of c.args.table.now.table c.args.e) c.args.store.now.blocks c.requires.there c.in_ok-place.place (sym c.place_of.ensures.value ∙ c.in_ok-place.was))
    (λ b is can. can.known (has_at b.block c.block-block.result.now c.types.result.now c.args.ty.0 _ is c.types.ensures.value (sym has)))

pub returns-then-not-has : goal.returns-then-not-has
returns-then-not-has c =
    seen_at c.args.registry.now c.args.ty.0 (place_of c.args.table.now.table c.args.e) c.args.store.now.blocks c.requires.there c.in_ok-place.place (sym c.place_of.ensures.value ∙ c.in_ok-place.was)
    None (option_map (buffer (length (fields_at c.args.registry.now c.args.ty.0)))) (λ (b : Numbered). c.block-block.result.now ≡ b.block) c.block-block.ensures
    (λ b is can.
    sym (ap (option_map (buffer (length (fields_at c.args.registry.now c.args.ty.0))))
    (seen_lacks c.args.registry.now c.args.ty.0 c.in_ok-place.place.row b (has_at b.block c.block-block.result.now c.types.result.now c.args.ty.0 _ is c.types.ensures.value c.if-not-has.ensures))))

pub elements_at-requires-clause-within : goal.elements_at-requires-clause-within
elements_at-requires-clause-within c =
    at_block c.in_ok-place.place.block (CanSee c.args.registry.now c.args.ty.0 c.in_ok-place.place.row) c.args.store.now.blocks c.block-block.result.now c.block-block.ensures
    (seeing c.args.registry.now c.args.ty.0 (place_of c.args.table.now.table c.args.e) c.args.store.now.blocks c.requires.there c.in_ok-place.place (sym c.place_of.ensures.value ∙ c.in_ok-place.was))
    (λ b is can. subst (λ (s : BlockState). c.in_ok-place.place.row < length s.rows) (sym is) can.there)

pub elements_at-requires-clause-there : goal.elements_at-requires-clause-there
elements_at-requires-clause-there c =
    at_block c.in_ok-place.place.block (CanSee c.args.registry.now c.args.ty.0 c.in_ok-place.place.row) c.args.store.now.blocks c.block-block.result.now c.block-block.ensures
    (seeing c.args.registry.now c.args.ty.0 (place_of c.args.table.now.table c.args.e) c.args.store.now.blocks c.requires.there c.in_ok-place.place (sym c.place_of.ensures.value ∙ c.in_ok-place.was))
    (λ b is can.
    subst (λ (s : BlockState). OfType c.args.ty.0 IsBuffer s.columns) (sym is)
    (seen_shape c.args.registry.now c.args.ty.0 c.in_ok-place.place.row b can
    (has_at b.block c.block-block.result.now c.types.result.now c.args.ty.0 _ is c.types.ensures.value c.if-not-has.ensures) (buffer_own c.args.registry.now c.args.ty.0 c.requires.buffer) IsBuffer c.requires.buffer))

pub returns : goal.returns
returns c =
    seen_at c.args.registry.now c.args.ty.0 (place_of c.args.table.now.table c.args.e) c.args.store.now.blocks c.requires.there c.in_ok-place.place (sym c.place_of.ensures.value ∙ c.in_ok-place.was)
    (Some c.elements_at.result.now) (option_map (buffer (length (fields_at c.args.registry.now c.args.ty.0)))) (λ (b : Numbered). c.block-block.result.now ≡ b.block) c.block-block.ensures
    (λ b is can.
    elements_here c.args.registry.now c.args.ty.0 c.in_ok-place.place.row b can
    (has_at b.block c.block-block.result.now c.types.result.now c.args.ty.0 _ is c.types.ensures.value c.if-not-has.ensures) (buffer_own c.args.registry.now c.args.ty.0 c.requires.buffer) c.elements_at.result.now
    (subst (λ (s : BlockState). OfType c.args.ty.0 (λ shape. c.elements_at.result.now ≡ buffer (length shape.kinds) (content_at c.args.ty.0 (row_in c.in_ok-place.place.row s.rows).cells).values) s.columns) is c.elements_at.ensures))
