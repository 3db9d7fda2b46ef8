use Rattle.std.proofs.Common.{◌≡◌, ◌++◌, drop, map}
use Rattle.run_model.specs.Steps.{system_child}
use Rattle.scenario_check.proofs.children.push_systems.Given as goal

-- the children that are left
abbrev pub invariant-loop-system : goal.invariant-loop-system
invariant-loop-system l =
    l.children.items ++ map (system_child l.scenario) (drop l.system-index l.scenario.system) ≡ l.initial.children.items ++ map (system_child l.scenario) l.scenario.system
