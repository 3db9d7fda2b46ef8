use Rattle.std.proofs.Common.{◌≡◌, ◌++◌, drop, map}
use Rattle.run_model.specs.Steps.{group_child}
use Rattle.scenario_check.proofs.children.push_groups.Given as goal

-- the children that are left
abbrev pub invariant-loop-group : goal.invariant-loop-group
invariant-loop-group l =
    l.children.items ++ map (group_child l.scenario) (drop l.group-index l.scenario.group) ≡ l.initial.children.items ++ map (group_child l.scenario) l.scenario.group
