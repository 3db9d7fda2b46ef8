use Rattle.std.proofs.Common.{◌≡◌, ◌-◌, ◌^◌, min, length, take}
use Rattle.playback.specs.Order.{all_entries}
use Rattle.playback.proofs.places.count.Given as goal

abbrev pub invariant-loop-chain : goal.invariant-loop-chain
invariant-loop-chain l = l.entries ≡ min (length (all_entries (take l.chain-index l.chains))) (2 ^ 64 - 1)
