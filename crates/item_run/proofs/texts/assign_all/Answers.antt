use Rattle.std.proofs.Common.{map, take}
use Rattle.run_model.specs.Job.{Assigns}
use Rattle.item_run.specs.Writing.{rows_at}
use Rattle.item_run.proofs.Done.{can_assign_after, does_more, does_none, in_at, ready_after}
use Rattle.item_run.proofs.texts.assign_all.Goals as goal

pub assign-requires-clause-ready : goal.assign-requires-clause-ready
assign-requires-clause-ready c =
    let before = map Assigns (take c.loop-text.text-index c.args.texts.now) in
    ready_after (rows_at c.args.context.now c.args.loan.now) before c.args.context.now.left c.loop-text.loan c.requires.ready c.loop-text.invariant

pub assign-requires-clause-can : goal.assign-requires-clause-can
assign-requires-clause-can c =
    let text = c.text-item.result in
    can_assign_after (rows_at c.args.context.now c.args.loan.now) c.loop-text.loan c.loop-text.invariant.loan text
    (c.requires.can text (in_at c.args.texts.now c.loop-text.text-index text c.loop-text-test.true c.text-item.is))

pub loop-text-init : goal.loop-text-init
loop-text-init c = does_none (rows_at c.args.context.now c.args.loan.now) c.args.context.now.left c.requires.ready

pub loop-text-preserved : goal.loop-text-preserved
loop-text-preserved c =
    does_more Assigns (rows_at c.args.context.now c.args.loan.now) c.args.texts.now c.loop-text.text-index c.text-item.result c.args.context.now.left c.loop-text.loan c.assign.new.loan
    c.loop-text-test.true c.text-item.is c.loop-text.invariant c.assign.ensures
