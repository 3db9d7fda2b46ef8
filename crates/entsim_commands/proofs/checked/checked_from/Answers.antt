use Rattle.std.proofs.Common.{ap}
use Rattle.scenario_record.specs.declared.plan.Plan.{Plan}
use Rattle.entsim_commands.proofs.checked.checked_from.Goals as goal

pub returns-clause-passed : goal.returns-clause-passed
returns-clause-passed c = record {
  runnable = c.what_passes_is_runnable.ensures _ _ _ c.in_ok-scenario.ensures c.in_ok-plan.ensures;
  ordered = c.what_passes_is_ordered.ensures.ordered _ _ c.in_ok-plan.ensures;
  steps = ap (λ (plan : Plan). plan.steps) (c.what_passes_is_ordered.ensures.planned _ _ c.in_ok-plan.ensures);
}
