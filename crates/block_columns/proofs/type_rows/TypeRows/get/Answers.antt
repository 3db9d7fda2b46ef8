use Rattle.std.proofs.Common.{◌<◌, ◌∙◌, sym, ap, subst}
use Rattle.block_columns.specs.Columns.{value_at}
use Rattle.block_columns.specs.Fields.{fields_of, HasRow}
use Rattle.block_columns.specs.Types.{TypeState, HasField, cell_in}
use Rattle.block_columns.proofs.Rows.{column_there}
use Rattle.block_columns.proofs.Seen.{size, read_value}
use Rattle.block_columns.proofs.type_rows.TypeRows.get.Goals as goal

pub get-requires : goal.get-requires
get-requires c =
    let l = c.self.inside in
    let fs = fields_of l.fields in
    let inv = c.self.invariant in
    let within : c.args.row < l.rows = subst (λ m. c.args.row < m) (size c.args.self.now l.shape l.capacity fs l.off l.rows c.self.view_is) c.requires.within in
    let takes = subst (λ (t : TypeState). (HasField c.args.field) t.shape) (sym c.self.view_is) c.requires.there in
    column_there l.rows l.capacity c.args.field l.shape (HasRow c.args.row) fs inv.fields_of_type inv.have_rows takes (λ x kind long. subst (λ m. c.args.row < m) (sym long) within)

pub returns : goal.returns
returns c =
    let l = c.self.inside in
    let fs = fields_of l.fields in
    let inv = c.self.invariant in
    let within : c.args.row < l.rows = subst (λ m. c.args.row < m) (size c.args.self.now l.shape l.capacity fs l.off l.rows c.self.view_is) c.requires.within in
    read_value l.capacity l.rows c.args.row c.args.field c.get.result l.shape fs l.off within c.get.ensures
    ∙ ap (λ (t : TypeState). value_at c.args.field (cell_in c.args.row t.cells).values) c.self.view_is
