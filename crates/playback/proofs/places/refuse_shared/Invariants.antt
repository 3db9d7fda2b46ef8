use Rattle.std.proofs.Common.{◌≡◌, ◌-◌, drop}
use Rattle.playback.specs.Places.{shared_in}
use Rattle.playback.proofs.places.refuse_shared.Given as goal

abbrev pub invariant-loop-k : goal.invariant-loop-k
invariant-loop-k l = shared_in (drop (l.k - 1) l.places) ≡ shared_in l.places
