use Rattle.std.proofs.Common.{sym, ◌∙◌}
use Rattle.playback.proofs.Neighbours.{next_keeps, none_left}
use Rattle.playback.proofs.places.refuse_shared.Goals as goal

pub loop-k-preserved : goal.loop-k-preserved
loop-k-preserved c =
    next_keeps c.args.places.now _ _ c.loop-k.k c.loop-k.auto.k c.loop-k-test.true (sym c.share_key.ensures ∙ c.if-share_key.false) c.loop-k.invariant

pub returns : goal.returns
returns c = none_left c.args.places.now c.loop-k.k c.loop-k.auto.k c.loop-k-test.false c.loop-k.invariant
