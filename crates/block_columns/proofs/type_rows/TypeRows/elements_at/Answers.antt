use Rattle.std.proofs.Common.{◌<◌, ◌∙◌, sym, ap, subst, length}
use Rattle.buffer_store.specs.Buffers.{buffer}
use Rattle.block_columns.specs.Fields.{fields_of, HasList}
use Rattle.block_columns.specs.Types.{TypeState, IsBuffer, cell_in}
use Rattle.block_columns.proofs.Rows.{lists_there}
use Rattle.block_columns.proofs.Seen.{size, read_elements}
use Rattle.block_columns.proofs.type_rows.TypeRows.elements_at.Goals as goal

pub elements-requires : goal.elements-requires
elements-requires c =
    let l = c.self.inside in
    let fs = fields_of l.fields in
    let inv = c.self.invariant in
    let within : c.args.row < l.rows = subst (λ m. c.args.row < m) (size c.args.self.now l.shape l.capacity fs l.off l.rows c.self.view_is) c.requires.within in
    let takes = subst (λ (t : TypeState). IsBuffer t.shape) (sym c.self.view_is) c.requires.buffer in
    lists_there l.rows l.capacity l.shape (HasList c.args.row) fs inv.fields_of_type inv.have_rows takes (λ b width long. subst (λ m. c.args.row < m) (sym long) within)

pub returns : goal.returns
returns c =
    let l = c.self.inside in
    let fs = fields_of l.fields in
    let inv = c.self.invariant in
    let within : c.args.row < l.rows = subst (λ m. c.args.row < m) (size c.args.self.now l.shape l.capacity fs l.off l.rows c.self.view_is) c.requires.within in
    read_elements l.capacity l.rows c.args.row c.elements.result.now l.shape fs l.off within inv.fields_of_type c.elements.ensures
    ∙ ap (λ (t : TypeState). buffer (length t.shape.kinds) (cell_in c.args.row t.cells).values) c.self.view_is
