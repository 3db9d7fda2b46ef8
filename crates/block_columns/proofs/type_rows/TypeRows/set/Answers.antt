use Rattle.std.proofs.Common.{◌<◌, ◌∙◌, sym, ap, refl, subst}
use Rattle.std.proofs.lemmas.List.{length-set}
use Rattle.ent_types.specs.Fitting.{fit}
use Rattle.block_columns.specs.Columns.{written}
use Rattle.block_columns.specs.Fields.{FieldsState, fields_of, HasRow}
use Rattle.block_columns.specs.Types.{TypeState, TakesValue, one_row, with_value}
use Rattle.block_columns.proofs.Rows.{column_there, of_changed, rows_changed}
use Rattle.block_columns.proofs.Seen.{seen, size, after_set}
use Rattle.block_columns.proofs.type_rows.TypeRows.set.Goals as goal

pub set-requires : goal.set-requires
set-requires c =
    let l = c.self.inside in
    let fs = fields_of l.fields in
    let inv = c.self.invariant in
    let within : c.args.row < l.rows = subst (λ m. c.args.row < m) (size c.args.self.now l.shape l.capacity fs l.off l.rows c.self.view_is) c.requires.within in
    let takes = subst (λ (t : TypeState). (TakesValue c.args.field c.args.value) t.shape) (sym c.self.view_is) c.requires.takes in
    column_there l.rows l.capacity c.args.field l.shape (HasRow c.args.row) fs inv.fields_of_type inv.have_rows takes.0 (λ x kind long. subst (λ m. c.args.row < m) (sym long) within)

pub invariant_of-self : goal.invariant_of-self
invariant_of-self c =
    let l = c.self.inside in
    let fs = fields_of l.fields in
    let inv = c.self.invariant in
    let takes = subst (λ (t : TypeState). (TakesValue c.args.field c.args.value) t.shape) (sym c.self.view_is) c.requires.takes in
    rw c.set.ensures (record {
      few = inv.few;
      most = inv.most;
      fields_of_type = of_changed c.args.field (written c.args.row c.args.value) l.shape fs (λ x. refl) inv.fields_of_type;
      have_rows = rows_changed l.rows l.capacity c.args.field (written c.args.row c.args.value) l.shape fs (λ x. length-set x.values c.args.row (fit x.kind c.args.value)) (λ x. refl) inv.fields_of_type takes.0 inv.have_rows;
      past = inv.past;
      bits = inv.bits;
    })

pub returns : goal.returns
returns c =
    let l = c.self.inside in
    let fs = fields_of l.fields in
    let inv = c.self.invariant in
    let within : c.args.row < l.rows = subst (λ m. c.args.row < m) (size c.args.self.now l.shape l.capacity fs l.off l.rows c.self.view_is) c.requires.within in
    let takes = subst (λ (t : TypeState). (TakesValue c.args.field c.args.value) t.shape) (sym c.self.view_is) c.requires.takes in
    ap (λ (f : FieldsState). seen l.shape l.capacity f l.off l.rows) c.set.ensures
    ∙ (after_set l.capacity l.rows c.args.row c.args.field c.args.value l.shape fs l.off within inv takes.0 takes.1
    ∙ ap (one_row c.args.row (with_value c.args.field c.args.value)) c.self.view_is)
