use Rattle.std.proofs.Common.{◌≡◌, map, take}
use Rattle.playback.specs.Places.{entry_in}
use Rattle.playback.proofs.places.entries_at.Given as goal

abbrev pub invariant-loop-place : goal.invariant-loop-place
invariant-loop-place l = l.entries.items ≡ map (entry_in l.chains) (take l.place-index l.places)
