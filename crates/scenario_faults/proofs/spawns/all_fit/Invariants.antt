use Rattle.std.proofs.Common.{◌≡◌, ◌≤◌, drop}
use Rattle.scenario_faults.specs.Checks.{crowded_from}
use Rattle.scenario_faults.proofs.spawns.all_fit.Given as goal

-- the spawns that are left
abbrev pub invariant-loop-i : goal.invariant-loop-i
invariant-loop-i l = record {
  left : crowded_from l.made l.i (drop l.i l.spawns) ≡ crowded_from 0 0 l.spawns;
  few : l.made ≤ 1048576;
}
