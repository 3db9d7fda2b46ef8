use Rattle.std.proofs.Common.{◌≡◌, length}
use Rattle.archetype_store.specs.Inside.{walked}
use Rattle.archetype_store.proofs.blocks.BlocksIterator.next.Given as goal

-- only empty places were passed over
abbrev pub invariant-loop-place : goal.invariant-loop-place
invariant-loop-place l = walked l.self-inside.slots.now l.self-inside.order.now ≡ l.fn.self

abbrev pub decreases-loop-place : goal.decreases-loop-place
decreases-loop-place l = length l.self-inside.order.now
