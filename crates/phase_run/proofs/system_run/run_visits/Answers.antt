use Rattle.std.proofs.Common.{◌∙◌, ap}
use Rattle.structural_ops.specs.Lent.{LoansState}
use Rattle.phase_run.proofs.Returned.{comes_back, is_plan, items_ready, may_return}
use Rattle.phase_run.proofs.system_run.run_visits.Goals as goal

pub freeze-frozen-requires-clause-plan : goal.freeze-frozen-requires-clause-plan
freeze-frozen-requires-clause-plan c =
    is_plan c.args.world c.args.system.now c.args.visits.now c.args.plan.now c.requires.numbers c.requires.runs c.requires.plan c.requires.visits.last c.requires.visits.are

pub run_items-done-requires-clause-items : goal.run_items-done-requires-clause-items
run_items-done-requires-clause-items c =
    items_ready c.args.world c.args.system.now c.args.visits.now c.args.plan.now c.requires.numbers c.requires.runs c.requires.plan c.requires.visits.last c.requires.visits.are
    c.args.frame c.is_lawful.ensures c.freeze-frozen.result.0 c.freeze-frozen.ensures.frozen c.freeze-frozen.result.1.loans (ap (λ (l : LoansState). l.loans) c.freeze-frozen.ensures.loans)
    c.freeze-frozen.ensures.own

pub restore-requires : goal.restore-requires
restore-requires c =
    may_return c.args.world c.args.system.now c.args.visits.now c.args.plan.now c.requires.numbers c.requires.runs c.requires.plan c.requires.visits.last c.requires.visits.are
    c.args.frame c.is_lawful.ensures c.freeze-frozen.result.0 c.freeze-frozen.ensures.frozen c.freeze-frozen.result.1.loans (ap (λ (l : LoansState). l.loans) c.freeze-frozen.ensures.loans)
    c.freeze-frozen.ensures.own c.run_items-done.result.loans c.run_items-done.ensures
    (record { loans = c.loans_come_in_any_order.ensures.loans; world = c.loans_come_in_any_order.ensures.world })

pub returns : goal.returns
returns c = λ last are.
    c.restore.ensures
    ∙ comes_back c.args.world c.args.system.now c.args.visits.now c.args.plan.now c.requires.numbers c.requires.runs c.requires.plan last are
    c.args.frame c.is_lawful.ensures c.freeze-frozen.result.0 c.freeze-frozen.ensures.frozen c.freeze-frozen.result.1.loans (ap (λ (l : LoansState). l.loans) c.freeze-frozen.ensures.loans)
    c.freeze-frozen.ensures.own c.run_items-done.result.loans c.run_items-done.ensures
    (record { loans = c.loans_come_in_any_order.ensures.loans; world = c.loans_come_in_any_order.ensures.world })
    (record { alive = c.the_rest_reads_as_before.ensures.alive; has = c.the_rest_reads_as_before.ensures.has; value = c.the_rest_reads_as_before.ensures.value })
    (record { written = c.loans_bring_what_was_written.ensures.written; unwritten = c.loans_bring_what_was_written.ensures.unwritten })
