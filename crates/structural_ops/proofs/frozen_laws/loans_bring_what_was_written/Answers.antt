use Rattle.std.proofs.Common.{◌≡◌, ◌∙◌, ap, subst, sym, List, map}
use Rattle.std.specs.Prelude.{IsPermutation}
use Rattle.chunk_block.specs.Blocks.{LoanState}
use Rattle.world_loans.proofs.Lent.{lends_loans}
use Rattle.structural_ops.specs.Freezing.{AreLoansOf, FrozenState, IsPlan, frozen_by, loan_of, with_loans}
use Rattle.structural_ops.specs.Worlds.{WorldState}
use Rattle.structural_ops.proofs.Agreeing.{unwritten_back, written_back}
use Rattle.structural_ops.proofs.Freezing.{frozen_state, loans_are}
use Rattle.structural_ops.proofs.frozen_laws.loans_bring_what_was_written.Goals as goal

pub returns-clause-written : goal.returns-clause-written
returns-clause-written c plan loans of =
    let w = c.world.inside.tables in
    let is = c.world.invariant in
    let same = frozen_state w is plan ∙ ap (frozen_by plan) c.world.view_is in
    sym (ap (λ (f : FrozenState). with_loans loans f.state) same)
    ∙ written_back w is plan loans (subst (λ (f : FrozenState). AreLoansOf f loans) (sym same) of).once
    ∙ ap (with_loans loans) c.world.view_is

pub returns-clause-unwritten : goal.returns-clause-unwritten
returns-clause-unwritten c plan loans h order =
    let w = c.world.inside.tables in
    let is = c.world.invariant in
    let same = frozen_state w is plan ∙ ap (frozen_by plan) c.world.view_is in
    let here = subst (IsPlan plan) (sym c.world.view_is) h in
    let lent : map (loan_of c.args.world.now) plan ≡ _ =
    sym (ap (λ (s : WorldState). map (loan_of s) plan) c.world.view_is) ∙ sym (loans_are w is c.is_sound.ensures plan here.apart) ∙ lends_loans plan w.store here.apart in
    sym (ap (λ (f : FrozenState). with_loans loans f.state) same)
    ∙ unwritten_back w is plan c.is_sound.ensures here loans (subst (λ (ls : List LoanState). IsPermutation ls loans) lent order)
    ∙ c.world.view_is
