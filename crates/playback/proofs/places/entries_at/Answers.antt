use Rattle.playback.specs.Places.{IsPlaced}
use Rattle.playback.proofs.Placed.{at_place}
use Rattle.playback.proofs.places.entries_at.Goals as goal

pub entry_at-requires : goal.entry_at-requires
entry_at-requires c = at_place (IsPlaced c.args.chains.now) c.args.places.now c.requires c.loop-place.place-index _ c.loop-place-test.true
