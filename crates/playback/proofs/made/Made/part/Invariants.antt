use Rattle.std.proofs.Common.{◌≡◌, map, take}
use Rattle.playback.specs.Asked.{value_for}
use Rattle.playback.specs.Makers.{made_in}
use Rattle.playback.proofs.made.Made.part.Given as goal

abbrev pub invariant-loop-value : goal.invariant-loop-value
invariant-loop-value l = l.values ≡ map (value_for (made_in l.self l.item)) (take l.value-index l.value-items)
