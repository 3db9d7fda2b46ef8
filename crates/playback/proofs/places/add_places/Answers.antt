use Rattle.std.proofs.Common.{◌<◌, length, arith}
use Rattle.playback.proofs.Placed.{place_more}
use Rattle.playback.proofs.places.add_places.Goals as goal

pub loop-k-preserved : goal.loop-k-preserved
loop-k-preserved c =
    let less : c.loop-k.k < length c.args.chain.now.entries = omega (arith, c.len-k-end.ensures.value) in
    let pushed = c.in_ok-push.ensures.items in
    let more = place_more c.args.places.now.items c.loop-k.places.items c.args.number c.args.chain.now c.loop-k.k c.turn.result less c.turn.ensures c.loop-k.invariant in
    cc
