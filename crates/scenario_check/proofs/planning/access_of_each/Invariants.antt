use Rattle.std.proofs.Common.{◌≡◌, map, take}
use Rattle.scenario_faults.specs.Touched.{access_of}
use Rattle.scenario_check.proofs.planning.access_of_each.Given as goal

-- the systems so far
abbrev pub invariant-loop-system : goal.invariant-loop-system
invariant-loop-system l = l.access ≡ map (access_of l.registry) (take l.system-index l.systems)
