use Rattle.std.proofs.Common.{◌≡◌, ◌++◌, map}
use Rattle.std.specs.List.{range_with_len}
use Rattle.playback.specs.Places.{place_at}
use Rattle.playback.proofs.places.add_places.Given as goal

abbrev pub invariant-loop-k : goal.invariant-loop-k
invariant-loop-k l = l.places.items ≡ l.fn.places.items ++ map (place_at l.number l.chain) (range_with_len 0 l.k)
