use Rattle.std.proofs.Common.{◌≡◌, ◌-◌, length}
use Rattle.system_order.specs.Order.{spliced}
use Rattle.system_order.specs.Roots.{systems_below}
use Rattle.system_order.proofs.splice.splice.Given as goal

abbrev pub invariant-loop-level : goal.invariant-loop-level
invariant-loop-level l = spliced l.children (length l.children - l.level) l.row.items ≡ systems_below l.children l.group
