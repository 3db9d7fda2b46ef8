use Rattle.std.proofs.Common.{◌≡◌, None, length, map, take}
use Rattle.std.specs.List.{range_with_len}
use Rattle.system_order.specs.Order.{cycle_in, first_some, placed_in}
use Rattle.system_order.proofs.splice.list_orders.Given as goal

abbrev pub invariant-loop-number : goal.invariant-loop-number
invariant-loop-number l = record {
  value : l.orders.items ≡ map (placed_in l.children) (take l.number (range_with_len 0 (length l.children)));
  none : first_some (cycle_in l.children) (take l.number (range_with_len 0 (length l.children))) ≡ None;
}
