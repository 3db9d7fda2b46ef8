use Rattle.std.proofs.Common.{◌≡◌, subst, sym}
use Rattle.structural_ops.specs.Freezing.{AreLoansOf, FrozenState, with_loans}
use Rattle.structural_ops.proofs.Agreeing.{frozen_permuted, loans_permuted}
use Rattle.structural_ops.proofs.frozen_laws.loans_come_in_any_order.Goals as goal

pub returns-clause-loans : goal.returns-clause-loans
returns-clause-loans c first second of order = loans_permuted c.args.frozen.now first second of order

pub returns-clause-world : goal.returns-clause-world
returns-clause-world c first second of order =
    subst (λ (f : FrozenState). with_loans second f.state ≡ with_loans first f.state) c.frozen.view_is
    (frozen_permuted c.frozen.inside.tables c.frozen.invariant first second (subst (λ (f : FrozenState). AreLoansOf f first) (sym c.frozen.view_is) of).once order)
