use Rattle.std.proofs.Common.{◌&&◌, ◌∙◌, ap, sym, List}
use Rattle.enable_bits.specs.Masks.{has}
use Rattle.block_columns.specs.Types.{Content, cell_in}
use Rattle.block_columns.specs.declared.shape.TypeShape.{TypeShape}
use Rattle.chunk_block.specs.Blocks.{is_off, row_in}
use Rattle.query_select.proofs.Off.{lacks_enableable, shape_enableable, cell_off}
use Rattle.query_select.proofs.query.disabled_rows.Goals as goal

pub returns-in-None : goal.returns-in-None
returns-in-None c = λ k.
    ap (λ m. has m k) c.empty.ensures
    ∙ sym (ap (λ e. e && is_off c.args.ty.0 (row_in k c.args.block.now.rows)) (lacks_enableable c.args.ty.0 c.args.block.now.columns c.requires c.in-None.ensures.shape))

pub returns-then-shape : goal.returns-then-shape
returns-then-shape c = λ k.
    c.disabled.ensures k
    ∙ ap (λ (cs : List Content). (cell_in k cs).off) c.in-Some.ensures.cells
    ∙ ap (λ (x : Content). x.off) (cell_off c.args.ty.0 c.args.block.now.rows k)
    ∙ sym (ap (λ e. e && is_off c.args.ty.0 (row_in k c.args.block.now.rows))
    (shape_enableable c.args.ty.0 c.in-Some.rows.now.shape c.args.block.now.columns c.in-Some.ensures.shape ∙ sym (ap (λ (s : TypeShape). s.enableable) c.shape.ensures) ∙ c.if-shape.true))

pub returns-else-shape : goal.returns-else-shape
returns-else-shape c = λ k.
    ap (λ m. has m k) c.empty-else-shape.ensures
    ∙ sym (ap (λ e. e && is_off c.args.ty.0 (row_in k c.args.block.now.rows))
    (shape_enableable c.args.ty.0 c.in-Some.rows.now.shape c.args.block.now.columns c.in-Some.ensures.shape ∙ sym (ap (λ (s : TypeShape). s.enableable) c.shape.ensures) ∙ c.if-shape.false))
