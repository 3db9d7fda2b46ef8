use Rattle.std.proofs.Common.{◌≡◌, drop}
use Rattle.scenario_faults.specs.Checks.{order_fault_from}
use Rattle.scenario_faults.proofs.siblings.orders_by.Given as goal

-- the names that are left
abbrev pub invariant-loop-j : goal.invariant-loop-j
invariant-loop-j l = order_fault_from l.all l.child l.key l.j (drop l.j l.names) ≡ order_fault_from l.all l.child l.key 0 l.names
