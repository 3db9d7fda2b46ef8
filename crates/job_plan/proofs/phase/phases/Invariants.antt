use Rattle.std.proofs.Common.{◌≡◌, [], ◌++◌, drop, map}
use Rattle.job_plan.specs.PlanParts.{access_conflict_at, is_running, model_part, parts_after}
use Rattle.job_plan.proofs.phase.phases.Given as goal

-- the steps that are left
abbrev pub invariant-loop-step : goal.invariant-loop-step
invariant-loop-step l =
    map model_part l.parts ++ parts_after (access_conflict_at l.access) (is_running l.running) l.phase (drop l.step-index l.steps)
    ≡ parts_after (access_conflict_at l.access) (is_running l.running) [] l.steps
