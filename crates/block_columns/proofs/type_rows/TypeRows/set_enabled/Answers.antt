use Rattle.std.proofs.Common.{ℕ, ◌<◌, ◌≤◌, ◌∙◌, not, sym, ap, subst, arith, List}
use Rattle.block_columns.specs.Fields.{fields_of}
use Rattle.block_columns.specs.Types.{TypeState, IsEnableable, one_row, with_off}
use Rattle.block_columns.proofs.Rows.{past_switch}
use Rattle.block_columns.proofs.Seen.{seen, size, after_switch}
use Rattle.block_columns.proofs.type_rows.TypeRows.set_enabled.Goals as goal

pub set-requires : goal.set-requires
set-requires c =
    let l = c.self.inside in
    let fs = fields_of l.fields in
    let inv = c.self.invariant in
    let within : c.args.row < l.rows = subst (λ m. c.args.row < m) (size c.args.self.now l.shape l.capacity fs l.off l.rows c.self.view_is) c.requires.within in
    omega (arith, inv.few, inv.most, within)

pub invariant_of-self : goal.invariant_of-self
invariant_of-self c =
    let l = c.self.inside in
    let fs = fields_of l.fields in
    let inv = c.self.invariant in
    let within : c.args.row < l.rows = subst (λ m. c.args.row < m) (size c.args.self.now l.shape l.capacity fs l.off l.rows c.self.view_is) c.requires.within in
    let takes = subst (λ (t : TypeState). IsEnableable t.shape) (sym c.self.view_is) c.requires.enableable in
    rw c.set.ensures (record {
      few = inv.few;
      most = inv.most;
      fields_of_type = inv.fields_of_type;
      have_rows = inv.have_rows;
      past = λ k past. past_switch l.off l.rows c.args.row k (not c.args.on) within past inv.past;
      bits = λ never k. absurd (cc (never, takes));
    })

pub returns : goal.returns
returns c =
    let l = c.self.inside in
    let fs = fields_of l.fields in
    let inv = c.self.invariant in
    let within : c.args.row < l.rows = subst (λ m. c.args.row < m) (size c.args.self.now l.shape l.capacity fs l.off l.rows c.self.view_is) c.requires.within in
    let few : l.rows ≤ 128 = omega (arith, inv.few, inv.most) in
    ap (λ (off : List ℕ). seen l.shape l.capacity fs off l.rows) c.set.ensures
    ∙ (after_switch l.capacity l.rows c.args.row (not c.args.on) l.shape fs l.off within few
    ∙ ap (one_row c.args.row (with_off (not c.args.on))) c.self.view_is)
