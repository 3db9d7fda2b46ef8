use Rattle.std.proofs.Common.{◌≡◌, ◌∙◌, true, sym, ap, subst}
use Rattle.expr_eval.specs.Conditions.{reads}
use Rattle.expr_eval.specs.Values.{value}
use Rattle.block_columns.specs.Columns.{HoldsNumbers}
use Rattle.run_laws.specs.Runnable.{ValueReads}
use Rattle.item_run.specs.ItemRows.{RowsState, own_row_at, row_count, seat_of, sources_in}
use Rattle.item_run.specs.Writing.{rows_at}
use Rattle.item_run.proofs.Done.{does_numbers, takes_numbers}
use Rattle.item_run.proofs.texts.assign_numbers.Goals as goal

pub evaluate-requires-clause-reads : goal.evaluate-requires-clause-reads
evaluate-requires-clause-reads c =
    let x = rows_at c.args.context.now c.args.loan.now in
    subst (λ (y : RowsState). reads (sources_in y).own (sources_in x).others c.args.number.now ≡ true) (sym c.new-rows.ensures.value)
    (subst (ValueReads (sources_in x)) c.requires.value c.requires.can.reads)

pub store-requires : goal.store-requires
store-requires c =
    let x = rows_at c.args.context.now c.args.loan.now in
    takes_numbers x c.requires.ready c.new-rows.ensures.lawful c.args.text.now c.requires.can c.args.context.now.left c.args.number.now c.requires.value _ (c.evaluate.ensures.size ∙ ap row_count c.new-rows.ensures.value)

pub returns : goal.returns
returns c =
    let x = rows_at c.args.context.now c.args.loan.now in
    does_numbers x c.requires.ready c.new-rows.ensures.lawful c.args.text.now c.requires.can c.args.context.now.left c.args.number.now c.requires.value c.evaluate.new.out
    (subst (λ (y : RowsState). HoldsNumbers c.evaluate.new.out (row_count y) (λ k. value (own_row_at y k) (seat_of x).others c.args.number.now)) c.new-rows.ensures.value c.evaluate.ensures)
    c.store.new.self c.store.ensures.loan c.store.ensures.of
