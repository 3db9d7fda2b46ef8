use Rattle.std.proofs.Common.{◌≡◌, ◌∙◌, ◌+◌, ap, ap₂, sym, subst, refl, List}
use Rattle.ent_io.proofs.Appends.{appended-nil}
use Rattle.ent_io.proofs.Exits.{exit_writes}
use Rattle.scenario_record.specs.declared.plan.Step.TheVariants.{Events, Play, Run}
use Rattle.structural_ops.specs.Worlds.{WorldState}
use Rattle.frame_run.specs.declared.runner.Runner.{Runner}
use Rattle.frame_run.specs.Doing.{tasks_of_step, tasks_of_steps}
use Rattle.frame_run.specs.Runners.{IsReady, stage_of}
use Rattle.frame_run.proofs.Loops.{begins, goes_on, next_step, step_at, steps_left, stops}
use Rattle.frame_run.proofs.StepTasks.{ready_raised}
use Rattle.frame_run.proofs.frames.run_frame.Goals as goal
use Rattle.frame_run.proofs.frames.run_frame.Goals.{in-Events+in_ok-do_events_of-in-Events, in-Play, in-Run+in_ok-world-in-Run}

pub loop-step-init : goal.loop-step-init
loop-step-init g c = record {
  underway = begins c.args.scenario.now c.args.trace (tasks_of_steps c.args.scenario.now c.args.frame c.args.steps.now) (stage_of c.args.world c.args.runners.now) (g.W.Sink.text c.args.out.now);
  ready = c.requires.ready;
  faults = refl;
}

pub returns-in_err-do_events_of-in-Events-clause-text : goal.returns-in_err-do_events_of-in-Events-clause-text
returns-in_err-do_events_of-in-Events-clause-text g c =
    let s = c.args.scenario.now in
    let steps = c.args.steps.now in
    let k = c.loop-step.step-index in
    let below = c.loop-step-test.true in
    exit_writes _ _ _ _ c.from_residual.ensures.0
    (stops s c.args.trace (tasks_of_steps s c.args.frame steps) (steps_left s c.args.frame steps k) (tasks_of_step s c.args.frame Events) (steps_left s c.args.frame steps (k + 1))
    (next_step s c.args.frame steps k Events below (step_at steps k _ Events below c.in-Events.is))
    (stage_of c.args.world c.args.runners.now) (stage_of c.loop-step.world c.loop-step.runners) (g.W.Sink.text c.args.out.now) (g.W.Sink.text c.loop-step.out) (g.W.Sink.text c.do_events_of.new.out) c.loop-step.invariant.underway
    (c.in_err-do_events_of-in-Events.ensures.text c.args.trace c.loop-step.runners))

pub returns-in_err-world-in-Run-clause-text : goal.returns-in_err-world-in-Run-clause-text
returns-in_err-world-in-Run-clause-text g c =
    let s = c.args.scenario.now in
    let steps = c.args.steps.now in
    let k = c.loop-step.step-index in
    let below = c.loop-step-test.true in
    let step = Run c.in-Run.number in
    exit_writes _ _ _ _ c.from_residual-in_err-world-in-Run.ensures.0
    (stops s c.args.trace (tasks_of_steps s c.args.frame steps) (steps_left s c.args.frame steps k) (tasks_of_step s c.args.frame step) (steps_left s c.args.frame steps (k + 1))
    (next_step s c.args.frame steps k step below (step_at steps k _ step below c.in-Run.is))
    (stage_of c.args.world c.args.runners.now) (stage_of c.loop-step.world c.loop-step.runners) (g.W.Sink.text c.args.out.now) (g.W.Sink.text c.loop-step.out) (g.W.Sink.text c.run_number.new.out) c.loop-step.invariant.underway
    c.in_err-world-in-Run.ensures.text)

pub loop-step-preserved : goal.loop-step-preserved
loop-step-preserved g c =
    let s = c.args.scenario.now in
    let steps = c.args.steps.now in
    let k = c.loop-step.step-index in
    let below = c.loop-step-test.true in
    let inv = c.loop-step.invariant in
    let whole = tasks_of_steps s c.args.frame steps in
    let first = stage_of c.args.world c.args.runners.now in
    let before = stage_of c.loop-step.world c.loop-step.runners in
    let after = stage_of c.match-step.world c.match-step.runners in
    let old = g.W.Sink.text c.args.out.now in
    let mid = g.W.Sink.text c.loop-step.out in
    let new = g.W.Sink.text c.match-step.out in
    elim c.match-step.branch [
      | in-Events+in_ok-do_events_of-in-Events b ↦
          record {
            underway = goes_on s c.args.trace whole (steps_left s c.args.frame steps k) (tasks_of_step s c.args.frame Events) (steps_left s c.args.frame steps (k + 1))
                (next_step s c.args.frame steps k Events below (step_at steps k _ Events below b.in-Events.is)) first before old mid new inv.underway after
                (ap₂ (λ (w : WorldState) (rs : List Runner). stage_of w rs) b.world-is b.runners-is ∙ b.in_ok-do_events_of-in-Events.ensures.stage c.args.trace c.loop-step.runners)
                (ap g.W.Sink.text b.out-is ∙ b.in_ok-do_events_of-in-Events.ensures.text c.args.trace c.loop-step.runners);
            ready = subst (λ (w : WorldState). IsReady s w c.match-step.runners) (sym b.world-is)
                (subst (λ (rs : List Runner). IsReady s b.do_events_of.new.world rs) (sym b.runners-is) (b.in_ok-do_events_of-in-Events.ensures.ready c.loop-step.runners inv.ready));
            faults = ap g.W.Sink.faults b.out-is ∙ (b.in_ok-do_events_of-in-Events.ensures.causes ∙ inv.faults);
          }
      | in-Play b ↦
          record {
            underway = goes_on s c.args.trace whole (steps_left s c.args.frame steps k) (tasks_of_step s c.args.frame (Play _)) (steps_left s c.args.frame steps (k + 1))
                (next_step s c.args.frame steps k (Play _) below (step_at steps k _ (Play _) below b.in-Play.is)) first before old mid new inv.underway after
                (ap₂ (λ (w : WorldState) (rs : List Runner). stage_of w rs) (b.world-is ∙ b.raise.ensures.world) b.runners-is)
                (ap g.W.Sink.text b.out-is ∙ sym (appended-nil mid));
            ready = subst (λ (rs : List Runner). IsReady s c.match-step.world rs) (sym b.runners-is)
                (ready_raised s c.loop-step.world c.match-step.world c.loop-step.runners (b.world-is ∙ b.raise.ensures.world) inv.ready);
            faults = ap g.W.Sink.faults b.out-is ∙ inv.faults;
          }
      | in-Run+in_ok-world-in-Run b ↦
          record {
            underway = goes_on s c.args.trace whole (steps_left s c.args.frame steps k) (tasks_of_step s c.args.frame (Run b.in-Run.number)) (steps_left s c.args.frame steps (k + 1))
                (next_step s c.args.frame steps k (Run b.in-Run.number) below (step_at steps k _ (Run b.in-Run.number) below b.in-Run.is)) first before old mid new inv.underway after
                (ap₂ (λ (w : WorldState) (rs : List Runner). stage_of w rs) b.world-is b.runners-is ∙ b.in_ok-world-in-Run.ensures.stage)
                (ap g.W.Sink.text b.out-is ∙ b.in_ok-world-in-Run.ensures.text);
            ready = subst (λ (w : WorldState). IsReady s w c.match-step.runners) (sym b.world-is)
                (subst (λ (rs : List Runner). IsReady s b.in_ok-world-in-Run.world rs) (sym b.runners-is) b.in_ok-world-in-Run.ensures.ready);
            faults = ap g.W.Sink.faults b.out-is ∙ (b.in_ok-world-in-Run.ensures.causes ∙ inv.faults);
          }
    ]
