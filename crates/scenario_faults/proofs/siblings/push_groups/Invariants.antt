use Rattle.std.proofs.Common.{◌≡◌, ◌++◌, drop, map}
use Rattle.scenario_faults.specs.Checks.{group_sibling}
use Rattle.scenario_faults.proofs.siblings.push_groups.Given as goal

-- the children that are left
abbrev pub invariant-loop-group : goal.invariant-loop-group
invariant-loop-group l = l.children.items ++ map group_sibling (drop l.group-index l.groups) ≡ l.initial.children.items ++ map group_sibling l.groups
