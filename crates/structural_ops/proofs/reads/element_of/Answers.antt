use Rattle.std.proofs.Common.{ℕ, ◌≡◌, ◌<◌, ◌≤◌, ◌∙◌, Option, Some, None, List, option_map, ap, refl, sym, subst, length, arith}
use Rattle.std.specs.Option.{MatchOption}
use Rattle.std.proofs.lemmas.Option.{none-some}
use Rattle.ent_types.specs.TypeLookups.{fields_at}
use Rattle.ent_types.specs.declared.value.Value.{Value}
use Rattle.entity_table.specs.Table.{place_of}
use Rattle.buffer_store.specs.Buffers.{Buffer, buffer, count_of}
use Rattle.chunk_block.proofs.New.{width_at}
use Rattle.archetype_store.specs.Stores.{Numbered, OfNumber}
use Rattle.structural_ops.specs.Reads.{CanSee, element_seen, values_seen}
use Rattle.structural_ops.proofs.Seen.{element_here, element_none, element_past, field_lacks, seen_more, seen_width}
use Rattle.structural_ops.proofs.reads.element_of.Goals as goal

pub returns-in_err-elements : goal.returns-in_err-elements
returns-in_err-elements c =
    seen_more c.args.registry.now c.args.ty.0 (place_of c.args.table.now.table c.args.e) c.args.store.now.blocks c.requires.there
    None (option_map (buffer (length (fields_at c.args.registry.now c.args.ty.0)))) c.from_residual.result (element_seen c.args.registry.now c.args.ty.0 c.args.k c.args.field)
    (λ _. c.from_residual.ensures)
    (λ k b can none. c.from_residual.ensures ∙ element_none c.args.registry.now c.args.ty.0 c.args.k c.args.field (values_seen c.args.registry.now c.args.ty.0 k b) none)
    c.in_err-elements.ensures

pub returns-then-from-fields : goal.returns-then-from-fields
returns-then-from-fields c =
    seen_more c.args.registry.now c.args.ty.0 (place_of c.args.table.now.table c.args.e) c.args.store.now.blocks c.requires.there
    (Some c.in_ok-elements.elements.now) (option_map (buffer (length (fields_at c.args.registry.now c.args.ty.0)))) None (element_seen c.args.registry.now c.args.ty.0 c.args.k c.args.field)
    (λ _. refl)
    (λ k b can is.
    field_lacks c.args.registry.now c.args.ty.0 k b can c.requires.buffer (width_at c.args.registry.now c.types.ensures.lawful c.args.ty.0 c.requires.buffer).0 c.in_ok-elements.elements.now is c.args.k c.args.field
    (omega (arith, c.if-from-fields.true, c.from.ensures, ap length c.fields.ensures.value)))
    c.in_ok-elements.ensures

pub returns-then-k-len : goal.returns-then-k-len
returns-then-k-len c =
    seen_more c.args.registry.now c.args.ty.0 (place_of c.args.table.now.table c.args.e) c.args.store.now.blocks c.requires.there
    (Some c.in_ok-elements.elements.now) (option_map (buffer (length (fields_at c.args.registry.now c.args.ty.0)))) None (element_seen c.args.registry.now c.args.ty.0 c.args.k c.args.field)
    (λ _. refl)
    (λ k b can is.
    element_past c.args.registry.now c.args.ty.0 k b can c.requires.buffer (width_at c.args.registry.now c.types.ensures.lawful c.args.ty.0 c.requires.buffer).0 c.in_ok-elements.elements.now is c.args.k c.args.field
    (omega (arith, c.if-from-fields.false, c.from.ensures, ap length c.fields.ensures.value)) (subst (λ n. n ≤ c.args.k) c.len.ensures.value c.if-k-len.true))
    c.in_ok-elements.ensures

pub value-requires-clause-field : goal.value-requires-clause-field
value-requires-clause-field c =
    omega (
      arith,
      c.if-from-fields.false,
      c.from.ensures,
      ap length c.fields.ensures.value,
      seen_width c.args.registry.now c.args.ty.0 (place_of c.args.table.now.table c.args.e) c.args.store.now.blocks c.in_ok-elements.elements.now c.in_ok-elements.ensures,
    )

pub returns : goal.returns
returns c =
    seen_more c.args.registry.now c.args.ty.0 (place_of c.args.table.now.table c.args.e) c.args.store.now.blocks c.requires.there
    (Some c.in_ok-elements.elements.now) (option_map (buffer (length (fields_at c.args.registry.now c.args.ty.0)))) (Some c.value.result) (element_seen c.args.registry.now c.args.ty.0 c.args.k c.args.field)
    (λ none. absurd (none-some c.in_ok-elements.elements.now (sym none)))
    (λ k b can is.
    element_here c.args.registry.now c.args.ty.0 k b can c.requires.buffer (width_at c.args.registry.now c.types.ensures.lawful c.args.ty.0 c.requires.buffer).0 c.in_ok-elements.elements.now is c.args.k c.args.field
    (omega (arith, c.if-from-fields.false, c.from.ensures, ap length c.fields.ensures.value)) c.value.result c.value.ensures)
    c.in_ok-elements.ensures
