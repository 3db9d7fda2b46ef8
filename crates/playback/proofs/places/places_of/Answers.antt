use Rattle.std.proofs.Common.{◌∙◌}
use Rattle.playback.proofs.Placed.{chain_more}
use Rattle.playback.proofs.places.places_of.Goals as goal

pub loop-number-preserved : goal.loop-number-preserved
loop-number-preserved c =
    c.in_ok-add_places.ensures
    ∙ chain_more c.args.chains.now c.loop-number.places.items c.loop-number.number c.index-chains-number.result c.loop-number-test.true c.index-chains-number.is c.loop-number.invariant
