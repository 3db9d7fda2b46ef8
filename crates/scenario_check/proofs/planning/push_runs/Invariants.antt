use Rattle.std.proofs.Common.{◌≡◌, ◌-◌, ◌++◌, drop, map}
use Rattle.scenario_record.specs.declared.plan.Step.TheVariants.{Run}
use Rattle.scenario_check.proofs.planning.push_runs.Given as goal

-- the systems that are left
abbrev pub invariant-loop-child : goal.invariant-loop-child
invariant-loop-child l =
    l.steps.items ++ map (λ n. Run n) (map (λ child. child - l.first) (drop l.child-index l.systems))
    ≡ l.initial.steps.items ++ map (λ n. Run n) (map (λ child. child - l.first) l.systems)
