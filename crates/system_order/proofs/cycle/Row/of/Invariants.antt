use Rattle.std.proofs.Common.{◌≡◌, map, take}
use Rattle.system_order.specs.Child.{precedes}
use Rattle.system_order.proofs.cycle.Row.of.Given as goal

abbrev pub invariant-loop-other : goal.invariant-loop-other
invariant-loop-other l = l.marks.items ≡ map (precedes l.children l.child) (take l.other-index l.siblings)
