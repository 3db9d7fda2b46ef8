use Rattle.std.proofs.Common.{◌∙◌, sym}
use Rattle.item_run.proofs.Held.{unknown}
use Rattle.item_run.proofs.rows.Rows.has.Goals as goal

pub returns-else-knows : goal.returns-else-knows
returns-else-knows c =
    let not_known = c.if-knows.false in
    not_known ∙ sym (unknown c.self.invariant c.args.self.now c.self.view_is c.args.ty.0 (λ known. let yes = c.knows.ensures.value.1 known in absurd (cc)))
