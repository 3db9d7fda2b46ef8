use Rattle.std.proofs.Common.{◌∙◌, ap, nat_eq}
use Rattle.ent_types.specs.declared.entity.TypeId.{TypeId}
use Rattle.block_columns.specs.Types.{with_enabled_in, all_rows}
use Rattle.chunk_block.specs.Pieces.{change_piece}
use Rattle.chunk_block.proofs.Boxes.{past_empty, past_other}
use Rattle.chunk_block.proofs.piece.+store_enabled.Goals as goal

pub returns-in-None-lent : goal.returns-in-None-lent
returns-in-None-lent t c =
    past_empty (change_piece c.args.ty.0 (all_rows (with_enabled_in c.args.rows.now c.args.on.now))) c.args.list.now c.store_enabled.new.list c.in-Some.piece c.deref_mut.result.now
    c.in-Some.is c.deref_mut.ensures.value c.in-None-lent.is c.store_enabled.ensures

pub returns-else-eq : goal.returns-else-eq
returns-else-eq t c =
    past_other c.args.ty.0 (all_rows (with_enabled_in c.args.rows.now c.args.on.now)) c.args.list.now c.store_enabled-else-eq.new.list c.in-Some.piece c.deref_mut.result.now c.in-Some-lent.held
    c.in-Some.is c.deref_mut.ensures.value c.in-Some-lent.is (c.if-eq.ensures ∙ ap (λ (ty : TypeId). nat_eq ty.0 c.args.ty.0) c.ty.ensures) c.store_enabled-else-eq.ensures
