use Rattle.std.proofs.Common.{ℕ, ◌-◌, ◌<◌, ◌∙◌, ap, subst, arith, List}
use Rattle.std.specs.List.{swap_remove}
use Rattle.block_columns.specs.Fields.{FieldsState, fields_of, swapped_fields}
use Rattle.block_columns.specs.Types.{TypeState, blank_cell}
use Rattle.block_columns.proofs.Rows.{of_swapped, rows_swapped, none_after, past_after}
use Rattle.block_columns.proofs.Seen.{seen, size, after_remove}
use Rattle.block_columns.proofs.type_rows.TypeRows.swap_remove.Goals as goal

pub swap_remove-requires-clause-within : goal.swap_remove-requires-clause-within
swap_remove-requires-clause-within c =
    let l = c.self.inside in
    let fs = fields_of l.fields in
    let inv = c.self.invariant in
    subst (λ m. c.args.row < m) (size c.args.self.now l.shape l.capacity fs l.off l.rows c.self.view_is) c.requires

pub swap_back-requires-clause-within : goal.swap_back-requires-clause-within
swap_back-requires-clause-within c =
    let l = c.self.inside in
    let fs = fields_of l.fields in
    let inv = c.self.invariant in
    subst (λ m. c.args.row < m) (size c.args.self.now l.shape l.capacity fs l.off l.rows c.self.view_is) c.requires

pub invariant_of-self : goal.invariant_of-self
invariant_of-self c =
    let l = c.self.inside in
    let fs = fields_of l.fields in
    let inv = c.self.invariant in
    let within : c.args.row < l.rows = subst (λ m. c.args.row < m) (size c.args.self.now l.shape l.capacity fs l.off l.rows c.self.view_is) c.requires in
    rw (c.swap_remove.ensures, c.swap_back.ensures) (record {
      few = omega (arith, inv.few);
      most = inv.most;
      fields_of_type = of_swapped c.args.row l.shape fs inv.fields_of_type;
      have_rows = rows_swapped l.rows l.capacity c.args.row fs inv.have_rows;
      past = λ k past. past_after l.off l.rows c.args.row k within past inv.past;
      bits = λ never k. none_after l.off l.rows c.args.row k (inv.bits never);
    })

pub returns : goal.returns
returns c =
    let l = c.self.inside in
    let fs = fields_of l.fields in
    let inv = c.self.invariant in
    let within : c.args.row < l.rows = subst (λ m. c.args.row < m) (size c.args.self.now l.shape l.capacity fs l.off l.rows c.self.view_is) c.requires in
    ap (λ (f : FieldsState). seen l.shape l.capacity f c.swap_back.new.self (l.rows - 1)) c.swap_remove.ensures
    ∙ (ap (λ (off : List ℕ). seen l.shape l.capacity (swapped_fields c.args.row fs) off (l.rows - 1)) c.swap_back.ensures
    ∙ (after_remove l.capacity l.rows c.args.row l.shape fs l.off within inv
    ∙ ap (λ (t : TypeState). record t { cells = swap_remove t.cells c.args.row blank_cell }) c.self.view_is))
