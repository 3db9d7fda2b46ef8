use Rattle.std.proofs.Common.{◌≡◌, ◌-◌, length}
use Rattle.store_tests.proofs.claims.drain.Given as goal

abbrev pub invariant-loop-number : goal.invariant-loop-number
invariant-loop-number l = (l.seat.table ≡ l.table) × (l.seat.view.weight ≡ l.fn.seat.view.weight)

abbrev pub decreases-loop-number : goal.decreases-loop-number
decreases-loop-number l = length l.seat.view.pieces - length l.seat.view.mine
