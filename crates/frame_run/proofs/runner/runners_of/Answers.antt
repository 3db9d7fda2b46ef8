use Rattle.std.proofs.Common.{◌≡◌, ◌+◌, ◌∙◌, ap, sym, subst, Some, arith, length}
use Rattle.std.proofs.lemmas.Option.{slice_get-get_or}
use Rattle.item_run.proofs.Done.{in_at}
use Rattle.frame_run.proofs.Found.{AreFirst, all_runners, one_runner}
use Rattle.frame_run.proofs.runner.runners_of.Goals as goal

pub of-requires : goal.of-requires
of-requires c = c.requires c.system-item.result (in_at c.args.systems.now c.loop-system.system-index c.system-item.result c.loop-system-test.true c.system-item.is)

pub loop-system-preserved : goal.loop-system-preserved
loop-system-preserved c =
    let ss = c.args.systems.now in
    let k = c.loop-system.system-index in
    let s = c.system-item.result in
    subst (λ rs. AreFirst c.args.registry.now ss rs (k + 1)) (sym c.in_ok-push.ensures.items)
    (one_runner c.args.registry.now ss c.loop-system.runners.items k s c.in_ok-of.field-0 c.loop-system.invariant
    (slice_get-get_or ss k s c.loop-system-test.true ∙ ap Some (sym c.system-item.is)) c.in_ok-of.ensures.runner c.in_ok-of.ensures.last)

pub returns-clause-runners : goal.returns-clause-runners
returns-clause-runners c =
    all_runners c.args.registry.now c.args.systems.now c.loop-system.runners.items c.loop-system.system-index c.loop-system.invariant
    (let past = c.loop-system-test.false in let within = c.loop-system.auto.system-index-end in omega (arith, past, within))
