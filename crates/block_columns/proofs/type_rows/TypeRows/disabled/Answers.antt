use Rattle.std.proofs.Common.{◌∙◌, ap}
use Rattle.block_columns.specs.Fields.{fields_of}
use Rattle.block_columns.specs.Types.{TypeState, cell_in}
use Rattle.block_columns.proofs.Seen.{read_bit}
use Rattle.block_columns.proofs.type_rows.TypeRows.disabled.Goals as goal

pub returns : goal.returns
returns c = λ k.
    let l = c.self.inside in
    let fs = fields_of l.fields in
    let inv = c.self.invariant in
    read_bit l.capacity l.rows k l.shape fs l.off inv ∙ ap (λ (t : TypeState). (cell_in k t.cells).off) c.self.view_is
