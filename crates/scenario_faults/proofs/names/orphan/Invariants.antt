use Rattle.std.proofs.Common.{◌≡◌, take, drop}
use Rattle.scenario_faults.specs.Checks.{root_groups, orphan_from}
use Rattle.scenario_faults.proofs.Steps.{taken}
use Rattle.scenario_faults.proofs.names.orphan.Given as goal

-- the groups that are left
abbrev pub invariant-loop-i : goal.invariant-loop-i
invariant-loop-i l = orphan_from (taken (λ g. g.name) root_groups (take l.i l.groups)) l.i (drop l.i l.groups) ≡ orphan_from root_groups 0 l.groups
