use Rattle.std.proofs.Common.{◌+◌, ◌<◌, ◌∙◌, ◌++◌, ◌∷◌, [], sym, ap, subst, length, arith}
use Rattle.block_columns.specs.Fields.{FieldsState, fields_of}
use Rattle.block_columns.specs.Types.{TypeState, new_cell}
use Rattle.block_columns.proofs.Lists.{length-tabulated}
use Rattle.block_columns.proofs.Rows.{of_pushed, rows_pushed}
use Rattle.block_columns.proofs.Seen.{seen, after_push}
use Rattle.block_columns.proofs.type_rows.TypeRows.push.Goals as goal

pub push-requires-clause-room : goal.push-requires-clause-room
push-requires-clause-room c =
    let l = c.self.inside in
    let fs = fields_of l.fields in
    let inv = c.self.invariant in
    subst (λ m. m < l.capacity) (length-tabulated _ 0 l.rows) (subst (λ (t : TypeState). length t.cells < t.capacity) (sym c.self.view_is) c.requires)

pub invariant_of-self : goal.invariant_of-self
invariant_of-self c =
    let l = c.self.inside in
    let fs = fields_of l.fields in
    let inv = c.self.invariant in
    let room : l.rows < l.capacity = subst (λ m. m < l.capacity) (length-tabulated _ 0 l.rows) (subst (λ (t : TypeState). length t.cells < t.capacity) (sym c.self.view_is) c.requires) in
    rw c.push.ensures (record {
      few = omega (arith, room);
      most = inv.most;
      fields_of_type = of_pushed l.shape fs inv.fields_of_type;
      have_rows = rows_pushed l.rows l.capacity fs inv.have_rows;
      past = λ k past. inv.past k (omega arith);
      bits = inv.bits;
    })

pub returns : goal.returns
returns c =
    let l = c.self.inside in
    let fs = fields_of l.fields in
    let inv = c.self.invariant in
    ap (λ (f : FieldsState). seen l.shape l.capacity f l.off (l.rows + 1)) c.push.ensures
    ∙ (after_push l.capacity l.rows l.shape fs l.off inv
    ∙ ap (λ (t : TypeState). record t { cells = t.cells ++ new_cell t.shape ∷ [] }) c.self.view_is)
