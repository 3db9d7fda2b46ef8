use Rattle.std.proofs.Common.{◌≡◌, ◌∙◌, true, sym, ap, subst}
use Rattle.expr_eval.specs.Conditions.{ref_reads}
use Rattle.expr_eval.specs.Values.{value_ref}
use Rattle.block_columns.specs.Columns.{HoldsReferences}
use Rattle.run_laws.specs.Runnable.{ValueReads}
use Rattle.item_run.specs.ItemRows.{RowsState, own_row_at, row_count, sources_in}
use Rattle.item_run.specs.Writing.{rows_at}
use Rattle.item_run.proofs.Done.{does_references, takes_references}
use Rattle.item_run.proofs.texts.assign_references.Goals as goal

pub evaluate_refs-requires-clause-reads : goal.evaluate_refs-requires-clause-reads
evaluate_refs-requires-clause-reads c =
    let x = rows_at c.args.context.now c.args.loan.now in
    subst (λ (y : RowsState). ref_reads (sources_in y).own c.args.reference.now ≡ true) (sym c.new-rows.ensures.value)
    (subst (ValueReads (sources_in x)) c.requires.value c.requires.can.reads)

pub store_references-requires : goal.store_references-requires
store_references-requires c =
    let x = rows_at c.args.context.now c.args.loan.now in
    takes_references x c.requires.ready c.new-rows.ensures.lawful c.args.text.now c.requires.can c.args.context.now.left c.args.reference.now c.requires.value _
    (c.evaluate_refs.ensures.size ∙ ap row_count c.new-rows.ensures.value)

pub returns : goal.returns
returns c =
    let x = rows_at c.args.context.now c.args.loan.now in
    does_references x c.requires.ready c.new-rows.ensures.lawful c.args.text.now c.requires.can c.args.context.now.left c.args.reference.now c.requires.value c.evaluate_refs.new.out
    (subst (λ (y : RowsState). HoldsReferences c.evaluate_refs.new.out (row_count y) (λ k. value_ref (own_row_at y k) c.args.reference.now)) c.new-rows.ensures.value c.evaluate_refs.ensures)
    c.store_references.new.self c.store_references.ensures.loan c.store_references.ensures.of
