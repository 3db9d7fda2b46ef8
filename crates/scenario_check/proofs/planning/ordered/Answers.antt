use Rattle.std.proofs.Common.{ap, length, ◌∙◌, arith}
use Rattle.scenario_check.proofs.OrderLemmas.{few_children, cycle_due, plan_due}
use Rattle.scenario_check.proofs.planning.ordered.Goals as goal

pub order_by_root-requires : goal.order_by_root-requires
order_by_root-requires c =
    let s = c.args.scenario.now in
    let is = ap length (c.deref.ensures.value ∙ c.in_ok-children.ensures) in
    omega (arith, is, few_children s c.requires.read)

pub returns-in-Ok : goal.returns-in-Ok
returns-in-Ok c =
    let s = c.args.scenario.now in
    let is = c.deref.ensures.value ∙ c.in_ok-children.ensures in
    plan_due s c.in_ok-plan_of-in-Ok.field-0 (rw is at c.in-Ok.ensures.acyclic) c.in_ok-plan_of-in-Ok.ensures

pub returns-in-Err-Cycle : goal.returns-in-Err-Cycle
returns-in-Err-Cycle c =
    let s = c.args.scenario.now in
    let is = c.deref.ensures.value ∙ c.in_ok-children.ensures in
    let due = rw c.in-Err-Cycle.field-0-is at (rw is at c.in-Err-Cycle.ensures.err) in
    cycle_due s c.in-Err-Cycle.child c.cycle_fault.result due c.cycle_fault.ensures
