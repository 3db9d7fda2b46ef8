use Rattle.std.proofs.Common.{◌≡◌, take}
use Rattle.std.specs.List.{flat_map}
use Rattle.system_order.specs.Order.{opened}
use Rattle.system_order.proofs.splice.open_row.Given as goal

abbrev pub invariant-loop-number : goal.invariant-loop-number
invariant-loop-number l = l.wider.items ≡ flat_map (opened l.children) (take l.number-index l.row)
