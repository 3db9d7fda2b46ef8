use Rattle.std.proofs.Common.{◌∙◌, sym, ap, subst, map}
use Rattle.block_columns.specs.Columns.{value_at}
use Rattle.block_columns.specs.Fields.{fields_of}
use Rattle.block_columns.specs.Types.{TypeState, Content, HasField}
use Rattle.block_columns.proofs.Seen.{read_column}
use Rattle.block_columns.proofs.type_rows.TypeRows.column.Goals as goal

pub returns : goal.returns
returns c =
    let l = c.self.inside in
    let fs = fields_of l.fields in
    let inv = c.self.invariant in
    let takes = subst (λ (t : TypeState). (HasField c.args.field) t.shape) (sym c.self.view_is) c.requires in
    read_column l.capacity l.rows c.args.field _ l.shape fs l.off inv.fields_of_type inv.have_rows takes c.slice.ensures
    ∙ ap (λ (t : TypeState). map (λ (x : Content). value_at c.args.field x.values) t.cells) c.self.view_is
