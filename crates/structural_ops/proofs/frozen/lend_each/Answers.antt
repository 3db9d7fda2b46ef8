use Rattle.std.proofs.Common.{◌∙◌, ◌∷◌, ◌+◌, ap, sym, drop}
use Rattle.std.proofs.lemmas.List.{at_drop_more}
use Rattle.structural_ops.proofs.Lending.{lends_next}
use Rattle.structural_ops.proofs.frozen.lend_each.Goals as goal

pub loop-entry-preserved : goal.loop-entry-preserved
loop-entry-preserved c =
    let entries = c.args.entries.now in
    let k = c.loop-entry.entry-index in
    let e = c.entry-item.result in
    lends_next entries k c.args.store.now c.loop-entry.store c.args.loans.now.spare c.loop-entry.loans c.loop-entry.invariant e
    (at_drop_more (λ es. es) entries k e c.loop-entry-test.true ∙ ap (λ x. x ∷ drop (k + 1) entries) (sym c.entry-item.is))
    c.lend-loan.new.self c.lend-loan.result c.add.new.self c.lend-loan.ensures.store c.lend-loan.ensures.loan c.lend-loan.ensures.own c.lend-loan.ensures.others c.add.ensures
