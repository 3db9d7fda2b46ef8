use Rattle.std.proofs.Common.{◌<◌, ◌∙◌, not, ap, subst, arith}
use Rattle.block_columns.specs.Fields.{fields_of}
use Rattle.block_columns.specs.Types.{TypeState, cell_in}
use Rattle.block_columns.proofs.Seen.{size, read_bit}
use Rattle.block_columns.proofs.type_rows.TypeRows.enabled.Goals as goal

pub get-requires : goal.get-requires
get-requires c =
    let l = c.self.inside in
    let fs = fields_of l.fields in
    let inv = c.self.invariant in
    let within : c.args.row < l.rows = subst (λ m. c.args.row < m) (size c.args.self.now l.shape l.capacity fs l.off l.rows c.self.view_is) c.requires in
    omega (arith, inv.few, inv.most, within)

pub returns : goal.returns
returns c =
    let l = c.self.inside in
    let fs = fields_of l.fields in
    let inv = c.self.invariant in
    ap not (c.get.ensures ∙ (read_bit l.capacity l.rows c.args.row l.shape fs l.off inv ∙ ap (λ (t : TypeState). (cell_in c.args.row t.cells).off) c.self.view_is))
