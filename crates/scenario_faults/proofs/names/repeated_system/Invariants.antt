use Rattle.std.proofs.Common.{◌≡◌, ◌++◌, take, drop, map}
use Rattle.scenario_faults.specs.Checks.{root_groups, repeated_from}
use Rattle.scenario_faults.proofs.Steps.{taken}
use Rattle.scenario_faults.proofs.names.repeated_system.Given as goal

-- the systems that are left
abbrev pub invariant-loop-i : goal.invariant-loop-i
invariant-loop-i l =
    repeated_from (taken (λ y. y.name) (root_groups ++ map (λ g. g.name) l.groups) (take l.i l.systems)) l.i (map (λ y. y.name) (drop l.i l.systems))
    ≡ repeated_from (root_groups ++ map (λ g. g.name) l.groups) 0 (map (λ y. y.name) l.systems)
