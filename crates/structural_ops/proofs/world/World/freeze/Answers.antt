use Rattle.std.proofs.Common.{◌≡◌, ◌∙◌, ◌≤◌, ◌-◌, ap, sym, subst, length, List, map}
use Rattle.world_model.specs.Members.{In}
use Rattle.chunk_block.specs.Blocks.{LoanState, IsLoanOf}
use Rattle.archetype_store.specs.Stores.{IsStore, StoreState, OfBlock}
use Rattle.world_loans.specs.Plans.{CanLend, after_lends, loans_from}
use Rattle.world_loans.proofs.Lent.{lends_are, lends_loans}
use Rattle.structural_ops.specs.Freezing.{AreLoansOf, IsFrozen, IsPlan, frozen_by, frozen_of, loan_of}
use Rattle.structural_ops.specs.Lent.{LoansState}
use Rattle.structural_ops.specs.Worlds.{WorldState}
use Rattle.structural_ops.proofs.Freezing.{are_loans, can_freeze, frozen_after, frozen_state, loans_are}
use Rattle.structural_ops.proofs.world.World.freeze.Goals as goal

pub lend_each-requires-clause-can : goal.lend_each-requires-clause-can
lend_each-requires-clause-can c =
    let w = c.self.inside.tables in
    let plan = c.args.plan.now in
    subst (λ es. CanLend es w.store) (sym c.entries.ensures) (can_freeze w c.self.invariant plan (subst (IsPlan plan) (sym c.self.view_is) c.requires.plan))

pub lend_each-requires-clause-room : goal.lend_each-requires-clause-room
lend_each-requires-clause-room c = subst (λ es. length es ≤ c.args.loans.spare) (sym c.entries.ensures) c.requires.room

pub invariant_of-result : goal.invariant_of-result
invariant_of-result c =
    let w = c.self.inside.tables in
    let plan = c.args.plan.now in
    let stored = c.lend_each.ensures.store ∙ ap (λ es. after_lends es w.store) c.entries.ensures ∙ lends_are plan w.store in
    subst (λ (s : StoreState). IsFrozen (record w { store = s })) (sym stored) (frozen_after w c.self.invariant plan)

pub returns-clause-frozen : goal.returns-clause-frozen
returns-clause-frozen c =
    let w = c.self.inside.tables in
    let plan = c.args.plan.now in
    let stored = c.lend_each.ensures.store ∙ ap (λ es. after_lends es w.store) c.entries.ensures ∙ lends_are plan w.store in
    ap (λ (s : StoreState). frozen_of (record w { store = s })) stored ∙ frozen_state w c.self.invariant plan ∙ ap (frozen_by plan) c.self.view_is

pub returns-clause-loans : goal.returns-clause-loans
returns-clause-loans c =
    let w = c.self.inside.tables in
    let plan = c.args.plan.now in
    c.lend_each.ensures.loans
    ∙ ap (λ es. let l : LoansState = record { loans = loans_from es w.store; spare = c.args.loans.spare - length es } in l) c.entries.ensures
    ∙ ap (λ (ls : List LoanState). let l : LoansState = record { loans = ls; spare = c.args.loans.spare - length plan } in l)
    (loans_are w c.self.invariant c.is_sound.ensures plan c.requires.plan.apart ∙ ap (λ (s : WorldState). map (loan_of s) plan) c.self.view_is)

pub returns-clause-own : goal.returns-clause-own
returns-clause-own c =
    let w = c.self.inside.tables in
    let plan = c.args.plan.now in
    let stored = c.lend_each.ensures.store ∙ ap (λ es. after_lends es w.store) c.entries.ensures ∙ lends_are plan w.store in
    subst (λ (s : StoreState). AreLoansOf (frozen_of (record w { store = s })) c.lend_each.new.loans.loans) (sym stored)
    (are_loans w c.self.invariant c.is_sound.ensures plan (subst (IsPlan plan) (sym c.self.view_is) c.requires.plan) (subst IsStore stored c.is_sound-2.ensures) c.lend_each.new.loans.loans
    (ap (λ (l : LoansState). l.loans) c.lend_each.ensures.loans ∙ ap (λ es. loans_from es w.store) c.entries.ensures ∙ lends_loans plan w.store c.requires.plan.apart)
    (λ l i. subst (λ (s : StoreState). OfBlock l.number (λ b. IsLoanOf b l) s.blocks) stored (c.lend_each.ensures.own l i)))
