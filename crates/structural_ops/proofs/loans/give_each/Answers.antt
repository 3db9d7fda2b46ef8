use Rattle.std.proofs.Common.{◌≡◌, ◌+◌, ◌∙◌, [], ◌∷◌, inl, inr, ap, sym, refl, subst, List, length, arith}
use Rattle.std.specs.Vec.Iter.{into_iter_items, into_iter_len}
use Rattle.std.proofs.lemmas.List.{nil_from_length}
use Rattle.world_model.specs.Members.{In}
use Rattle.chunk_block.specs.Blocks.{LoanState, IsLoanOf}
use Rattle.archetype_store.specs.Stores.{OfBlock, StoreState, with_block_in}
use Rattle.world_loans.specs.Returns.{after_returns, with_given}
use Rattle.structural_ops.proofs.Lending.{given_still}
use Rattle.structural_ops.proofs.loans.give_each.Goals as goal

pub loop-loan-init : goal.loop-loan-init
loop-loan-init c =
    let gives = c.into_iter-loan-iterator.ensures.into_iter_gives in
    let items = gives.0 in (
      ap (λ (ls : List LoanState). after_returns ls c.args.store.now) items,
      (λ x i. c.requires x (subst (In x) items i), (let len = gives.1 in let same = ap length items in omega (arith, len))),
    )

pub give_back-requires : goal.give_back-requires
give_back-requires c =
    subst (λ n. OfBlock n (λ b. IsLoanOf b c.in-Some.loan) c.loop-loan.store.blocks) (sym c.number-number.ensures)
    (c.loop-loan.invariant.1.0 c.in-Some.loan (subst (In c.in-Some.loan) (sym c.in-Some.ensures.steps.0) (inl refl)))

pub loop-loan-preserved : goal.loop-loan-preserved
loop-loan-preserved c =
    let loan = c.in-Some.loan in
    let now = c.loop-loan.store in
    let rest = into_iter_items c.next.new.self in
    let steps = c.in-Some.ensures.steps in
    let stored = c.give_back.ensures.store ∙ ap (λ n. with_block_in n (with_given loan.pieces) now) c.number-number.ensures in (
      ap (after_returns rest) stored ∙ ap (λ (ls : List LoanState). after_returns ls now) (sym steps.0) ∙ c.loop-loan.invariant.0,
      (
        λ x i.
            given_still loan.number loan.pieces now c.give_back.new.self x stored
            (λ h. subst (λ n. OfBlock n (λ b. IsLoanOf b x) c.give_back.new.self.blocks) c.number-number.ensures
            (c.give_back.ensures.others x (subst (λ n. OfBlock n (λ b. IsLoanOf b x) now.blocks) (sym c.number-number.ensures) h)))
            (c.loop-loan.invariant.1.0 x (subst (In x) (sym steps.0) (inr i))),
        (let size = c.loop-loan.invariant.1.1 in let more = ap length steps.0 in let less = steps.1 in omega arith),
      ),
    )

pub returns : goal.returns
returns c =
    let none = c.in-None.ensures.steps.0 in
    let size = c.loop-loan.invariant.1.1 in
    let empty : into_iter_items c.loop-loan.loan-iterator ≡ [] = nil_from_length _ (sym size ∙ none) in
    sym (ap (λ (ls : List LoanState). after_returns ls c.loop-loan.store) empty) ∙ c.loop-loan.invariant.0
