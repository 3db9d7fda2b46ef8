use Rattle.std.proofs.Common.{map, subst, List}
use Rattle.world_model.specs.Members.{In}
use Rattle.expr_trees.specs.declared.tree.Assign.{Assign}
use Rattle.expr_trees.specs.declared.tree.Switch.{Switch}
use Rattle.run_model.specs.Job.{Assigns, Switches}
use Rattle.item_run.specs.Writing.{Does, rows_at}
use Rattle.item_run.proofs.Done.{can_switch_after, does_then, ready_after}
use Rattle.item_run.proofs.Systems.{can_assign, can_switch, ready}
use Rattle.item_run.proofs.texts.do_texts.Goals as goal

pub assign_all-requires-clause-can : goal.assign_all-requires-clause-can
assign_all-requires-clause-can c = λ a i. can_assign _ c.requires a (subst (In a) c.as_slice.ensures i)

pub switch_all-requires-clause-ready : goal.switch_all-requires-clause-ready
switch_all-requires-clause-ready c =
    ready_after (rows_at c.args.context.now c.args.loan.now) (map Assigns c.as_slice.result.now) c.args.context.now.left c.assign_all.new.loan (ready _ c.requires) c.assign_all.ensures

pub switch_all-requires-clause-can : goal.switch_all-requires-clause-can
switch_all-requires-clause-can c = λ w i.
    can_switch_after (rows_at c.args.context.now c.args.loan.now) c.assign_all.new.loan c.assign_all.ensures.loan w (can_switch _ c.requires w (subst (In w) c.as_slice-2.ensures i))

pub returns : goal.returns
returns c =
    let x = rows_at c.args.context.now c.args.loan.now in
    let mask = c.args.context.now.left in
    does_then x (map Assigns c.args.system.now.set) (map Switches c.args.system.now.enable) mask c.assign_all.new.loan c.switch_all.new.loan
    (subst (λ (xs : List Assign). Does x (map Assigns xs) mask c.assign_all.new.loan) c.as_slice.ensures c.assign_all.ensures)
    (subst (λ (xs : List Switch). Does (rows_at c.args.context.now c.assign_all.new.loan) (map Switches xs) mask c.switch_all.new.loan) c.as_slice-2.ensures c.switch_all.ensures)
