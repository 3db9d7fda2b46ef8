use Rattle.std.proofs.Common.{ℕ, ◌≡◌, ◌<◌, true, sym, subst}
use Rattle.enable_bits.specs.Masks.{has}
use Rattle.expr_eval.specs.Conditions.{reads}
use Rattle.expr_eval.specs.Values.{is_true, value}
use Rattle.item_run.specs.ItemRows.{RowsState, own_row_at, row_count, seat_of, sources_in}
use Rattle.item_run.specs.Writing.{rows_at}
use Rattle.item_run.proofs.Done.{does_switch, takes_bits}
use Rattle.item_run.proofs.texts.switch.Goals as goal

pub evaluate_mask-on-requires-clause-reads : goal.evaluate_mask-on-requires-clause-reads
evaluate_mask-on-requires-clause-reads c =
    let x = rows_at c.args.context.now c.args.loan.now in
    subst (λ (y : RowsState). reads (sources_in y).own (sources_in x).others c.args.text.now.value ≡ true) (sym c.new-rows.ensures.value) c.requires.can.reads

pub store_enabled-requires : goal.store_enabled-requires
store_enabled-requires c =
    takes_bits (rows_at c.args.context.now c.args.loan.now) c.requires.ready c.new-rows.ensures.lawful c.args.text.now c.requires.can c.args.context.now.left c.evaluate_mask-on.result

pub returns : goal.returns
returns c =
    let x = rows_at c.args.context.now c.args.loan.now in
    let on = c.evaluate_mask-on.result in
    does_switch x c.requires.ready c.new-rows.ensures.lawful c.args.text.now c.requires.can c.args.context.now.left on
    (subst (λ (y : RowsState). (k : ℕ) → k < row_count y → has on k ≡ is_true (value (own_row_at y k) (seat_of x).others c.args.text.now.value)) c.new-rows.ensures.value c.evaluate_mask-on.ensures.rows)
    c.store_enabled.new.self c.store_enabled.ensures.loan c.store_enabled.ensures.of
