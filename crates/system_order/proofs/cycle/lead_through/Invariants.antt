use Rattle.std.proofs.Common.{◌≡◌, ◌++◌, map, take, drop}
use Rattle.system_order.specs.Chain.{widened}
use Rattle.system_order.proofs.cycle.lead_through.Given as goal

abbrev pub invariant-loop-row : goal.invariant-loop-row
invariant-loop-row l = l.rows ≡ map (widened l.more l.fn.at) (take l.row-index l.initial.rows) ++ drop l.row-index l.initial.rows
