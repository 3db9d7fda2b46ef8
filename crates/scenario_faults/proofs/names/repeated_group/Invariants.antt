use Rattle.std.proofs.Common.{◌≡◌, take, drop, map}
use Rattle.scenario_faults.specs.Checks.{root_groups, repeated_from}
use Rattle.scenario_faults.proofs.Steps.{taken}
use Rattle.scenario_faults.proofs.names.repeated_group.Given as goal

-- the groups that are left
abbrev pub invariant-loop-i : goal.invariant-loop-i
invariant-loop-i l =
    repeated_from (taken (λ g. g.name) root_groups (take l.i l.groups)) l.i (map (λ g. g.name) (drop l.i l.groups))
    ≡ repeated_from root_groups 0 (map (λ g. g.name) l.groups)
