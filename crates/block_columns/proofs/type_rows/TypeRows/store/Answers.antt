use Rattle.std.proofs.Common.{◌≡◌, ◌∙◌, sym, ap, refl, subst, length, arith}
use Rattle.block_columns.specs.Columns.{with_number, IsNumberKind}
use Rattle.block_columns.specs.Fields.{FieldsState, fields_of, CanStoreNumbers, stored_numbers}
use Rattle.block_columns.specs.Types.{TypeState, TakesNumbers, all_rows, kind_in, with_number_in}
use Rattle.block_columns.proofs.Lists.{length-at_places}
use Rattle.block_columns.proofs.Rows.{column_there, of_changed, rows_changed}
use Rattle.block_columns.proofs.Seen.{seen, size, after_store}
use Rattle.block_columns.proofs.type_rows.TypeRows.store.Goals as goal

pub store-requires : goal.store-requires
store-requires c =
    let l = c.self.inside in
    let fs = fields_of l.fields in
    let inv = c.self.invariant in
    let takes = subst (λ (t : TypeState). (TakesNumbers c.args.field) t.shape) (sym c.self.view_is) c.requires.takes in
    let count : length c.args.numbers.now ≡ l.rows = c.requires.size ∙ size c.args.self.now l.shape l.capacity fs l.off l.rows c.self.view_is in
    column_there l.rows l.capacity c.args.field l.shape (CanStoreNumbers (length c.args.numbers.now)) fs inv.fields_of_type inv.have_rows takes.0
    (λ x kind long. (subst IsNumberKind (sym kind) takes.1, (long ∙ sym count, omega (arith, count, inv.few, inv.most))))

pub invariant_of-self : goal.invariant_of-self
invariant_of-self c =
    let l = c.self.inside in
    let fs = fields_of l.fields in
    let inv = c.self.invariant in
    let takes = subst (λ (t : TypeState). (TakesNumbers c.args.field) t.shape) (sym c.self.view_is) c.requires.takes in
    rw c.store.ensures (record {
      few = inv.few;
      most = inv.most;
      fields_of_type = of_changed c.args.field (stored_numbers c.args.rows.now c.args.numbers.now) l.shape fs (λ x. refl) inv.fields_of_type;
      have_rows = rows_changed l.rows l.capacity c.args.field (stored_numbers c.args.rows.now c.args.numbers.now) l.shape fs (λ x. length-at_places (with_number c.args.rows.now x.kind c.args.numbers.now) 0 x.values) (λ x. refl) inv.fields_of_type takes.0 inv.have_rows;
      past = inv.past;
      bits = inv.bits;
    })

pub returns : goal.returns
returns c =
    let l = c.self.inside in
    let fs = fields_of l.fields in
    let inv = c.self.invariant in
    let takes = subst (λ (t : TypeState). (TakesNumbers c.args.field) t.shape) (sym c.self.view_is) c.requires.takes in
    ap (λ (f : FieldsState). seen l.shape l.capacity f l.off l.rows) c.store.ensures
    ∙ (after_store l.capacity l.rows c.args.field c.args.rows.now c.args.numbers.now l.shape fs l.off inv takes.0
    ∙ ap (λ (t : TypeState). all_rows (with_number_in c.args.rows.now (kind_in c.args.field t.shape.kinds) c.args.field c.args.numbers.now) t) c.self.view_is)
