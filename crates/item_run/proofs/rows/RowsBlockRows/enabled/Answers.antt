use Rattle.std.proofs.Common.{sym}
use Rattle.item_run.proofs.Held.{always, bits_blank, bits_shown}
use Rattle.item_run.proofs.rows.RowsBlockRows.enabled.Goals as goal

pub returns-then-not-is_enableable : goal.returns-then-not-is_enableable
returns-then-not-is_enableable c =
    always c.self.invariant c.args.self.now c.self.view_is c.args.ty c.len.result c.len.ensures.value c.first-all.result c.first-all.ensures (sym c.if-not-has.ensures) (sym c.if-not-is_enableable.ensures)

pub returns-in-Some : goal.returns-in-Some
returns-in-Some c =
    bits_shown c.self.invariant c.args.self.now c.self.view_is c.args.ty c.len.result c.len.ensures.value c.first-all.result c.first-all.ensures (sym c.if-not-has.ensures) (sym c.if-not-is_enableable.ensures)
    c.in-Some.cells.now c.disabled.result c.and_not.result c.in-Some.ensures c.disabled.ensures c.and_not.ensures

pub returns-in-None : goal.returns-in-None
returns-in-None c =
    bits_blank c.self.invariant c.args.self.now c.self.view_is c.args.ty c.len.result c.len.ensures.value c.first-all.result c.first-all.ensures (sym c.if-not-has.ensures) (sym c.if-not-is_enableable.ensures) c.in-None.ensures
