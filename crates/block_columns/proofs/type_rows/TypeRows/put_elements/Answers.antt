use Rattle.std.proofs.Common.{◌<◌, ◌∙◌, sym, ap, subst, length}
use Rattle.buffer_store.specs.Buffers.{buffer}
use Rattle.block_columns.specs.Fields.{FieldsState, fields_of, TakesElements as TakesLists}
use Rattle.block_columns.specs.Types.{TypeState, TakesElements, one_row, cell_in, with_values}
use Rattle.block_columns.proofs.Rows.{lists_there, of_put, rows_put}
use Rattle.block_columns.proofs.Seen.{seen, size, after_put, read_elements}
use Rattle.block_columns.proofs.type_rows.TypeRows.put_elements.Goals as goal

pub put_elements-requires : goal.put_elements-requires
put_elements-requires c =
    let l = c.self.inside in
    let fs = fields_of l.fields in
    let inv = c.self.invariant in
    let within : c.args.row < l.rows = subst (λ m. c.args.row < m) (size c.args.self.now l.shape l.capacity fs l.off l.rows c.self.view_is) c.requires.within in
    let takes = subst (λ (t : TypeState). (TakesElements c.args.new) t.shape) (sym c.self.view_is) c.requires.takes in
    lists_there l.rows l.capacity l.shape (TakesLists c.args.row c.args.new) fs inv.fields_of_type inv.have_rows takes.0 (λ b width long. (subst (λ m. c.args.row < m) (sym long) within, takes.1 ∙ sym width))

pub invariant_of-self : goal.invariant_of-self
invariant_of-self c =
    let l = c.self.inside in
    let fs = fields_of l.fields in
    let inv = c.self.invariant in
    rw c.put_elements.ensures.new (record {
      few = inv.few;
      most = inv.most;
      fields_of_type = of_put c.args.row c.args.new.values l.shape fs inv.fields_of_type;
      have_rows = rows_put l.rows l.capacity c.args.row c.args.new.values fs inv.have_rows;
      past = inv.past;
      bits = inv.bits;
    })

pub returns-clause-old : goal.returns-clause-old
returns-clause-old c =
    let l = c.self.inside in
    let fs = fields_of l.fields in
    let inv = c.self.invariant in
    let within : c.args.row < l.rows = subst (λ m. c.args.row < m) (size c.args.self.now l.shape l.capacity fs l.off l.rows c.self.view_is) c.requires.within in
    read_elements l.capacity l.rows c.args.row c.put_elements.result l.shape fs l.off within inv.fields_of_type c.put_elements.ensures.old
    ∙ ap (λ (t : TypeState). buffer (length t.shape.kinds) (cell_in c.args.row t.cells).values) c.self.view_is

pub returns-clause-new : goal.returns-clause-new
returns-clause-new c =
    let l = c.self.inside in
    let fs = fields_of l.fields in
    let inv = c.self.invariant in
    let within : c.args.row < l.rows = subst (λ m. c.args.row < m) (size c.args.self.now l.shape l.capacity fs l.off l.rows c.self.view_is) c.requires.within in
    let takes = subst (λ (t : TypeState). (TakesElements c.args.new) t.shape) (sym c.self.view_is) c.requires.takes in
    ap (λ (f : FieldsState). seen l.shape l.capacity f l.off l.rows) c.put_elements.ensures.new
    ∙ (after_put l.capacity l.rows c.args.row c.args.new.values l.shape fs l.off within inv takes.0
    ∙ ap (one_row c.args.row (with_values c.args.new.values)) c.self.view_is)
