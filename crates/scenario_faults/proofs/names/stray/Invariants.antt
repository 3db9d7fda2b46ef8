use Rattle.std.proofs.Common.{◌≡◌, ◌++◌, drop, map}
use Rattle.scenario_faults.specs.Checks.{root_groups, stray_from}
use Rattle.scenario_faults.proofs.names.stray.Given as goal

-- the systems that are left
abbrev pub invariant-loop-i : goal.invariant-loop-i
invariant-loop-i l =
    stray_from (root_groups ++ map (λ g. g.name) l.groups) l.i (drop l.i l.systems) ≡ stray_from (root_groups ++ map (λ g. g.name) l.groups) 0 l.systems
