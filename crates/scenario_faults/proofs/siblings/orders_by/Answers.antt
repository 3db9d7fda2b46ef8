use Rattle.std.proofs.Common.{Some, None, sym, ap, ◌∙◌}
use Rattle.scenario_record.specs.Faults.{bad}
use Rattle.scenario_faults.specs.Checks.{at_element, cause_between, order_fault_from}
use Rattle.scenario_faults.proofs.FaultLemmas.{made_fails}
use Rattle.scenario_faults.proofs.SiblingLemmas.{order_step}
use Rattle.scenario_faults.proofs.siblings.orders_by.Goals as goal

pub returns-in-Some : goal.returns-in-Some
returns-in-Some c =
    let all = c.args.all.now in
    let child = c.args.child.now in
    let key = c.args.key.now in
    let names = c.args.names.now in
    let cause = c.in-Some.ensures ∙ ap (cause_between child) c.child_named.ensures in
    let moved = rw c.bad.ensures at c.at_element.ensures in
    made_fails (Unit {0}) (at_element key c.loop-j.j) (bad c.in-Some.cause) (order_fault_from all child key 0 names) c.at_element.result
    (sym c.loop-j.invariant ∙ order_step all child key names c.loop-j.j c.index-names-j.result (Some c.in-Some.cause) c.loop-j-test.true c.index-names-j.is cause)
    moved

pub loop-j-preserved : goal.loop-j-preserved
loop-j-preserved c =
    let child = c.args.child.now in
    let cause = c.in_default.ensures ∙ ap (cause_between child) c.child_named.ensures in
    sym (order_step c.args.all.now child c.args.key.now c.args.names.now c.loop-j.j c.index-names-j.result None c.loop-j-test.true c.index-names-j.is cause)
    ∙ c.loop-j.invariant
