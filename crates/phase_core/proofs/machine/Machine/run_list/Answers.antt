use Rattle.std.proofs.Common.{refl, subst}
use Rattle.std.proofs.lemmas.Result.{err_from_is_err_and}
use Rattle.phase_core.specs.Core.{IsKept}
use Rattle.phase_core.specs.Phase.{core_of}
use Rattle.phase_core.specs.declared.machine.StepOf.TheVariants.{Draw}
use Rattle.phase_core.proofs.Keeps.{sound, stops_at, taken_more}
use Rattle.phase_core.proofs.machine.Machine.run_list.Goals as goal

pub loop-step-init : goal.loop-step-init
loop-step-init g c = (tt, refl, sound _ (subst (λ p. IsKept (core_of g.I.ItemWork.work p)) c.self.view_is c.self.invariant))

pub returns-in_err-apply-clause-fault : goal.returns-in_err-apply-clause-fault
returns-in_err-apply-clause-fault g c =
    let p = err_from_is_err_and c.from_residual.result c.from_residual.ensures.1 in
    rw (p.1, p.2) (stops_at _ _ _ c.args.steps.now c.loop-step.step-index (Draw 0) _ c.loop-step-test.true c.loop-step.invariant.0 c.loop-step.invariant.1
    c.in_err-apply.ensures.unchanged c.in_err-apply.ensures.fault)

pub loop-step-preserved : goal.loop-step-preserved
loop-step-preserved g c =
    let t = taken_more (core_of g.I.ItemWork.work c.args.self.now) (core_of g.I.ItemWork.work c.loop-step.self) (core_of g.I.ItemWork.work c.apply.new.self)
    c.args.steps.now c.loop-step.step-index (Draw 0) c.loop-step-test.true c.loop-step.invariant.0 c.loop-step.invariant.1 c.in_ok-apply.ensures.ok.0 c.in_ok-apply.ensures.ok.1 in
    (t.0, t.1, c.in_ok-apply.ensures.sound)
