use Rattle.std.proofs.Common.{map}
use Rattle.job_plan.specs.PlanParts.{access_conflict_at, is_running, model_part}
use Rattle.job_plan.proofs.Parts.{all_parts}
use Rattle.job_plan.proofs.phase.phases.Goals as goal

pub returns : goal.returns
returns c =
    all_parts (access_conflict_at c.args.access.now) (is_running c.args.running.now) c.args.steps.now c.loop-step.step-index c.loop-step.phase
    (map model_part c.loop-step.parts) (map model_part c.end_phase.new.parts) c.loop-step-test.false c.loop-step.invariant c.in_ok-end_phase.ensures
