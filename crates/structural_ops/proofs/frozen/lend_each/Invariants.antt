use Rattle.structural_ops.proofs.Lending.{Lends}
use Rattle.structural_ops.proofs.frozen.lend_each.Given as goal

abbrev pub invariant-loop-entry : goal.invariant-loop-entry
invariant-loop-entry l = Lends l.entries l.entry-index l.fn.store l.store l.fn.loans.spare l.loans
