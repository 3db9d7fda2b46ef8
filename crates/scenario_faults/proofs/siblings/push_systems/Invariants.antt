use Rattle.std.proofs.Common.{◌≡◌, ◌++◌, drop, map}
use Rattle.scenario_faults.specs.Checks.{system_sibling}
use Rattle.scenario_faults.proofs.siblings.push_systems.Given as goal

-- the children that are left
abbrev pub invariant-loop-system : goal.invariant-loop-system
invariant-loop-system l = l.children.items ++ map system_sibling (drop l.system-index l.systems) ≡ l.initial.children.items ++ map system_sibling l.systems
