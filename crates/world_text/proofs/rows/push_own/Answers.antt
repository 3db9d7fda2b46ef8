use Rattle.std.proofs.Common.{◌≤◌, ◌∙◌, ap, sym, subst, length}
use Rattle.chunk_block.proofs.New.{width_at}
use Rattle.world_rows.proofs.Filled.{values_length}
use Rattle.block_columns.specs.Types.{cell_in}
use Rattle.world_text.proofs.rows.push_own.Goals as goal

pub push_elements-requires : goal.push_elements-requires
push_elements-requires c =
    subst (λ n. 1 ≤ n) (sym (ap length c.fields-fields.ensures.value)) (width_at c.args.registry.now c.types.ensures.lawful c.args.ty.0 (sym c.is_buffer.ensures ∙ c.if-is_buffer.true)).0

pub push_fields-requires-clause-values : goal.push_fields-requires-clause-values
push_fields-requires-clause-values c =
    values_length c.args.registry.now c.args.ty.0 (cell_in c.args.row c.args.rows.now.cells).values (sym c.is_buffer.ensures ∙ c.if-is_buffer.false) c.requires.fit
    ∙ sym (ap length c.fields-fields.ensures.value)
