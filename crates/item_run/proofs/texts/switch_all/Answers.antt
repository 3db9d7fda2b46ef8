use Rattle.std.proofs.Common.{map, take}
use Rattle.run_model.specs.Job.{Switches}
use Rattle.item_run.specs.Writing.{rows_at}
use Rattle.item_run.proofs.Done.{can_switch_after, does_more, does_none, in_at, ready_after}
use Rattle.item_run.proofs.texts.switch_all.Goals as goal

pub switch-requires-clause-ready : goal.switch-requires-clause-ready
switch-requires-clause-ready c =
    let before = map Switches (take c.loop-text.text-index c.args.texts.now) in
    ready_after (rows_at c.args.context.now c.args.loan.now) before c.args.context.now.left c.loop-text.loan c.requires.ready c.loop-text.invariant

pub switch-requires-clause-can : goal.switch-requires-clause-can
switch-requires-clause-can c =
    let text = c.text-item.result in
    can_switch_after (rows_at c.args.context.now c.args.loan.now) c.loop-text.loan c.loop-text.invariant.loan text
    (c.requires.can text (in_at c.args.texts.now c.loop-text.text-index text c.loop-text-test.true c.text-item.is))

pub loop-text-init : goal.loop-text-init
loop-text-init c = does_none (rows_at c.args.context.now c.args.loan.now) c.args.context.now.left c.requires.ready

pub loop-text-preserved : goal.loop-text-preserved
loop-text-preserved c =
    does_more Switches (rows_at c.args.context.now c.args.loan.now) c.args.texts.now c.loop-text.text-index c.text-item.result c.args.context.now.left c.loop-text.loan c.switch.new.loan
    c.loop-text-test.true c.text-item.is c.loop-text.invariant c.switch.ensures
