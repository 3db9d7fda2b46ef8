use Rattle.std.proofs.Common.{◌≡◌, drop}
use Rattle.scenario_faults.specs.Checks.{each_fault_from}
use Rattle.scenario_faults.proofs.each.each.Given as goal

-- the elements that are left
abbrev pub invariant-loop-i : goal.invariant-loop-i
invariant-loop-i g l =
    each_fault_from l.key (g.T.Test.fault l.test) l.i (drop l.i l.items) ≡ each_fault_from l.key (g.T.Test.fault l.test) 0 l.items
