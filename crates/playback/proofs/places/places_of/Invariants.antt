use Rattle.std.proofs.Common.{◌≡◌}
use Rattle.std.specs.Prelude.{slice_index_or}
use Rattle.std.specs.List.{flat_map, range_with_len}
use Rattle.playback.specs.Places.{no_chain, places_in}
use Rattle.playback.proofs.places.places_of.Given as goal

abbrev pub invariant-loop-number : goal.invariant-loop-number
invariant-loop-number l = l.places.items ≡ flat_map (λ n. places_in n (slice_index_or l.chains n no_chain)) (range_with_len 0 l.number)
