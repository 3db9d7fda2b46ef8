use Rattle.std.proofs.Common.{◌≡◌, None, take}
use Rattle.std.specs.List.{find}
use Rattle.system_order.specs.Chain.{chained, table_of}
use Rattle.system_order.specs.Child.{precedes}
use Rattle.system_order.proofs.cycle.find_cycle.Given as goal

abbrev pub invariant-loop-middle : goal.invariant-loop-middle
invariant-loop-middle l = l.rows.items ≡ table_of (chained (precedes l.children) (take l.middle l.siblings)) l.siblings

abbrev pub invariant-loop-at : goal.invariant-loop-at
invariant-loop-at l = record {
  chains : l.rows.items ≡ table_of (chained (precedes l.children) l.siblings) l.siblings;
  none : find (λ sibling. chained (precedes l.children) l.siblings sibling sibling) (take l.at l.siblings) ≡ None;
}
