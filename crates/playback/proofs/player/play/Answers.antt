use Rattle.std.proofs.Common.{sym, ◌∙◌, subst}
use Rattle.std.proofs.lemmas.Result.{err_from_is_err_and}
use Rattle.playback.specs.Played.{Plays}
use Rattle.playback.proofs.Ends.{begins, goes_on, grows_self, grows_then, stops, suits_now}
use Rattle.playback.proofs.player.play.Goals as goal

pub loop-entry-init : goal.loop-entry-init
loop-entry-init c = record {
  at = begins c.args.world.now _ c.args.entries.now c.new-2.ensures c.new.ensures;
  grows = grows_self c.args.world.now.archetypes;
  keeps = c.names_any.ensures;
}

pub play_entry-requires-clause-suits : goal.play_entry-requires-clause-suits
play_entry-requires-clause-suits c =
    suits_now c.args.world.now.world c.args.entries.now c.loop-entry.entry-index c.entry-item.result c.loop-entry-test.true c.entry-item.is
    c.loop-entry.world c.loop-entry.player c.loop-entry.invariant.at c.requires

pub returns-in_err-play_entry : goal.returns-in_err-play_entry
returns-in_err-play_entry c =
    let p = err_from_is_err_and c.from_residual.result c.from_residual.ensures.1 in
    subst (Plays c.args.world.now c.play_entry.new.world c.args.entries.now) (sym p.1)
    (stops c.args.world.now.world c.args.entries.now c.loop-entry.entry-index c.entry-item.result c.loop-entry-test.true c.entry-item.is
    c.loop-entry.world c.loop-entry.player c.loop-entry.invariant.at c.args.world.now c.play_entry.new.world c.loop-entry.invariant.grows
    c.in_err-play_entry.ensures.archetypes c.in_err-play_entry.ensures.err)

pub loop-entry-preserved : goal.loop-entry-preserved
loop-entry-preserved c = record {
  at = goes_on c.args.world.now.world c.args.entries.now c.loop-entry.entry-index c.entry-item.result c.loop-entry-test.true c.entry-item.is
      c.loop-entry.world c.loop-entry.player c.loop-entry.invariant.at c.play_entry.new.world c.play_entry.new.player c.in_ok-play_entry.ensures.ok;
  grows = grows_then c.args.world.now.archetypes c.loop-entry.world.archetypes c.play_entry.new.world.archetypes c.loop-entry.invariant.grows c.in_ok-play_entry.ensures.archetypes;
  keeps = c.in_ok-play_entry.ensures.keeps ∙ c.loop-entry.invariant.keeps;
}
