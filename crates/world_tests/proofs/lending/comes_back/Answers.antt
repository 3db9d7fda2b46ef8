use Rattle.std.proofs.Common.{ℕ, ◌≡◌, ◌++◌, ◌∷◌, [], ◌∙◌, ap, sym, subst, List, length, map}
use Rattle.std.specs.List.Sorted.{IsPermutation}
use Rattle.std.proofs.lemmas.List.{length-map}
use Rattle.chunk_block.specs.Blocks.{LoanState}
use Rattle.structural_ops.specs.Freezing.{FrozenState, loan_of, with_loans}
use Rattle.structural_ops.specs.Lent.{LoansState}
use Rattle.world_tests.proofs.Planned.{turned_about}
use Rattle.world_tests.proofs.lending.comes_back.Goals as goal

pub restore-requires : goal.restore-requires
restore-requires c =
    let all : List LoanState = c.freeze-frozen.result.1.loans in
    let rest : List LoanState = c.take_last-first.new.self.loans in
    let two : length all ≡ 2 =
    ap (λ (l : LoansState). length l.loans) c.freeze-frozen.ensures.loans ∙ length-map c.args.plan.now (loan_of c.args.world) ∙ c.requires.two in
    let last : c.add-2.new.self.loans ≡ (rest ++ c.take_last-last.result ∷ []) ++ c.take_last-first.result ∷ [] =
    ap (λ (l : LoansState). l.loans) c.add-2.ensures ∙ ap (λ (l : LoansState). l.loans ++ c.take_last-first.result ∷ []) c.add.ensures in
    c.loans_come_in_any_order.ensures.loans all c.add-2.new.self.loans c.freeze-frozen.ensures.own
    (subst (IsPermutation all) (sym last)
    (turned_about all rest c.take_last-last.new.self.loans c.take_last-first.result c.take_last-last.result two c.take_last-last.ensures.loans c.take_last-first.ensures.loans))

pub returns : goal.returns
returns c =
    let all : List LoanState = c.freeze-frozen.result.1.loans in
    let rest : List LoanState = c.take_last-first.new.self.loans in
    let are : all ≡ map (loan_of c.args.world) c.args.plan.now = ap (λ (l : LoansState). l.loans) c.freeze-frozen.ensures.loans in
    let two : length all ≡ 2 = ap length are ∙ length-map c.args.plan.now (loan_of c.args.world) ∙ c.requires.two in
    let last : c.add-2.new.self.loans ≡ (rest ++ c.take_last-last.result ∷ []) ++ c.take_last-first.result ∷ [] =
    ap (λ (l : LoansState). l.loans) c.add-2.ensures ∙ ap (λ (l : LoansState). l.loans ++ c.take_last-first.result ∷ []) c.add.ensures in
    c.restore.ensures
    ∙ ap (λ (f : FrozenState). with_loans c.add-2.new.self.loans f.state) c.freeze-frozen.ensures.frozen
    ∙ c.loans_bring_what_was_written.ensures.unwritten c.args.plan.now c.add-2.new.self.loans c.requires.plan
    (subst (λ ls. IsPermutation ls c.add-2.new.self.loans) are
    (subst (IsPermutation all) (sym last)
    (turned_about all rest c.take_last-last.new.self.loans c.take_last-first.result c.take_last-last.result two c.take_last-last.ensures.loans c.take_last-first.ensures.loans)))
