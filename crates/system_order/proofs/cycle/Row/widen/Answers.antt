use Rattle.std.proofs.Common.{◌≡◌, ◌||◌, ◌∙◌, List, Bool, ap, sym, arith, length, drop, false, get_or}
use Rattle.std.proofs.lemmas.List.{take_at}
use Rattle.system_order.proofs.Tables.{widened_marked, widened_unmarked}
use Rattle.system_order.proofs.cycle.Row.widen.Goals as goal

pub returns-then-has : goal.returns-then-has
returns-then-has c =
    let row = c.deref_mut.ensures.value ∙ c.self.view_is in
    let other = c.deref.ensures.value ∙ c.more.view_is in
    let same : length c.mark_all.new.marks ≡ length c.args.self.now = c.mark_all.auto.marks ∙ ap (λ (r : List Bool). length r) row in
    take_at c.mark_all.new.marks (drop (length c.mark_all.new.marks) c.self.inside.marks.items) c.self.inside.marks.len (omega (arith, c.mark_all.auto.marks, c.deref_mut.ensures.len))
    ∙ widened_marked c.args.self.now c.args.more.now c.mark_all.new.marks c.args.at c.requires.alike same (sym c.has.ensures ∙ c.if-has.true)
    (λ k within.
    c.mark_all.ensures k (omega (arith, within, ap (λ (r : List Bool). length r) row))
    ∙ ap (λ (r : List Bool). get_or r k false || get_or c.deref.result.now k false) row
    ∙ ap (λ (r : List Bool). get_or c.args.self.now k false || get_or r k false) other)

pub returns-else-has : goal.returns-else-has
returns-else-has c = widened_unmarked c.args.self.now c.args.more.now c.args.at c.requires.alike (sym c.has.ensures ∙ c.if-has.false)
