use Rattle.std.proofs.Common.{◌≡◌, ◌∙◌, ap, nat_eq, length}
use Rattle.ent_types.specs.declared.entity.TypeId.{TypeId}
use Rattle.buffer_store.specs.Buffers.{buffer}
use Rattle.block_columns.specs.Types.{TypeState, with_values, one_row, cell_in}
use Rattle.chunk_block.specs.Pieces.{change_piece}
use Rattle.chunk_block.proofs.Boxes.{past_empty, past_other, in_empty, in_other}
use Rattle.chunk_block.proofs.piece.+put_elements.Goals as goal

pub returns-in-None-lent-clause-new : goal.returns-in-None-lent-clause-new
returns-in-None-lent-clause-new t c =
    past_empty (change_piece c.args.ty.0 (one_row c.args.row (with_values c.args.new.values))) c.args.list.now c.put_elements.new.list c.in-Some.piece c.deref_mut.result.now
    c.in-Some.is c.deref_mut.ensures.value c.in-None-lent.is c.put_elements.ensures.new

pub returns-else-eq-clause-new : goal.returns-else-eq-clause-new
returns-else-eq-clause-new t c =
    past_other c.args.ty.0 (one_row c.args.row (with_values c.args.new.values)) c.args.list.now c.put_elements-else-eq.new.list c.in-Some.piece c.deref_mut.result.now c.in-Some-lent.held
    c.in-Some.is c.deref_mut.ensures.value c.in-Some-lent.is (c.if-eq.ensures ∙ ap (λ (ty : TypeId). nat_eq ty.0 c.args.ty.0) c.ty.ensures) c.put_elements-else-eq.ensures.new

pub returns-in-None-lent-clause-old : goal.returns-in-None-lent-clause-old
returns-in-None-lent-clause-old t c =
    in_empty c.args.ty.0 (λ (y : TypeState). c.put_elements.result ≡ buffer (length y.shape.kinds) (cell_in c.args.row y.cells).values) c.args.list.now c.in-Some.piece c.deref_mut.result.now
    c.in-Some.is c.deref_mut.ensures.value c.in-None-lent.is c.put_elements.ensures.old

pub returns-else-eq-clause-old : goal.returns-else-eq-clause-old
returns-else-eq-clause-old t c =
    in_other c.args.ty.0 (λ (y : TypeState). c.put_elements-else-eq.result ≡ buffer (length y.shape.kinds) (cell_in c.args.row y.cells).values) c.args.list.now c.in-Some.piece c.deref_mut.result.now c.in-Some-lent.held
    c.in-Some.is c.deref_mut.ensures.value c.in-Some-lent.is (c.if-eq.ensures ∙ ap (λ (ty : TypeId). nat_eq ty.0 c.args.ty.0) c.ty.ensures) c.put_elements-else-eq.ensures.old
