use Rattle.std.proofs.Common.{ap, sym, subst}
use Rattle.world_model.specs.Members.{In}
use Rattle.structural_ops.specs.Lent.{LoansState}
use Rattle.structural_ops.proofs.loans.Loans.give_back.Goals as goal

pub give_each-requires : goal.give_each-requires
give_each-requires c l i = c.requires l (subst (λ (s : LoansState). In l s.loans) c.self.view_is i)
