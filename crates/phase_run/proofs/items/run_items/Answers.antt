use Rattle.std.proofs.Common.{ℕ, ◌≡◌, ◌∙◌, ◌+◌, ◌-◌, ap, sym, subst, List, length, get_or, arith}
use Rattle.std.proofs.lemmas.List.{length_push}
use Rattle.chunk_block.specs.Blocks.{LoanState}
use Rattle.run_model.specs.Job.{texts_of}
use Rattle.structural_ops.specs.Lent.{LoansState}
use Rattle.query_select.specs.declared.visits.Visit.{Visit}
use Rattle.item_run.specs.Items.{IsItem}
use Rattle.item_run.specs.Writing.{Does}
use Rattle.phase_run.specs.Visited.{item_of, rows_of_loan}
use Rattle.phase_run.proofs.Turns.{AreRunning, all_ran, all_wait, items_long, next_item, one_more}
use Rattle.phase_run.proofs.items.run_items.Goals as goal

pub loop-init : goal.loop-init
loop-init c =
    let f = c.args.frozen.now in
    let s = c.args.system.now in
    let vs = c.args.visits.now in
    let lent = c.args.lent.loans in
    let long : length lent ≡ length vs = items_long f s c.args.frame 0 vs lent c.requires.items in (
      subst (AreRunning f s c.args.frame vs lent lent) (sym c.requires.empty) (all_wait f s c.args.frame vs lent c.requires.items),
      omega (arith, long),
      (let room = c.requires.room in omega (arith, long, room)),
    )

pub take_last-loan-requires : goal.take_last-loan-requires
take_last-loan-requires c =
    let count = c.loop.invariant.1 in
    let more = c.loop-test.true in
    omega (arith, count, more)

pub run_item-requires : goal.run_item-requires
run_item-requires c =
    let f = c.args.frozen.now in
    let s = c.args.system.now in
    let vs = c.args.visits.now in
    let left = c.take_last-loan.new.self.loans in
    let loan = c.take_last-loan.result in
    let v = c.index-visits-number.result in
    let at : v ≡ get_or vs (length left) v = c.index-visits-number.is ∙ ap (λ n. get_or vs n v) c.len-number.ensures in
    let rows = ap (λ (u : Visit). u.rows) c.index-visits-number.is in
    subst (λ (r : List ℕ). IsItem (item_of f s c.args.frame c.len-number.result r loan)) rows
    (subst (λ n. IsItem (item_of f s c.args.frame n v.rows loan)) (sym c.len-number.ensures)
    (next_item f s c.args.frame vs c.args.lent.loans c.requires.items c.loop.waiting.loans left c.loop.done.loans loan c.loop.invariant.0 c.take_last-loan.ensures.loans v at))

pub loop-preserved : goal.loop-preserved
loop-preserved c =
    let f = c.args.frozen.now in
    let s = c.args.system.now in
    let vs = c.args.visits.now in
    let lent = c.args.lent.loans in
    let left = c.take_last-loan.new.self.loans in
    let loan = c.take_last-loan.result in
    let new = c.run_item.result in
    let v = c.index-visits-number.result in
    let at : v ≡ get_or vs (length left) v = c.index-visits-number.is ∙ ap (λ n. get_or vs n v) c.len-number.ensures in
    let rows = ap (λ (u : Visit). u.rows) c.index-visits-number.is in
    let does : Does (rows_of_loan f c.args.frame (length left) loan) (texts_of s) v.rows new =
    subst (λ (r : List ℕ). Does (rows_of_loan f c.args.frame (length left) loan) (texts_of s) r new) (sym rows)
    (subst (λ n. Does (rows_of_loan f c.args.frame n loan) (texts_of s) (get_or vs c.len-number.result v).rows new) c.len-number.ensures c.run_item.ensures) in
    let fewer : length c.loop.waiting.loans ≡ length left + 1 = ap (λ (ls : List LoanState). length ls) c.take_last-loan.ensures.loans ∙ length_push left loan in
    let spare : c.add.new.self.spare ≡ c.loop.done.spare - 1 = ap (λ (l : LoansState). l.spare) c.add.ensures in
    let count = c.loop.invariant.1 in
    let room = c.loop.invariant.2 in (
      subst (AreRunning f s c.args.frame vs lent left) (sym (ap (λ (l : LoansState). l.loans) c.add.ensures))
          (one_more f s c.args.frame vs lent c.requires.items c.loop.waiting.loans left c.loop.done.loans loan c.loop.invariant.0 c.take_last-loan.ensures.loans v at new does),
      omega (arith, fewer, count),
      omega (arith, fewer, spare, room),
    )

pub returns : goal.returns
returns c =
    let count = c.loop.invariant.1 in
    let last = c.loop-test.false in
    let none : length c.loop.waiting.loans ≡ 0 = omega (arith, count, last) in
    all_ran c.args.frozen.now c.args.system.now c.args.frame c.args.visits.now c.args.lent.loans c.requires.items c.loop.waiting.loans c.loop.done.loans none c.loop.invariant.0
