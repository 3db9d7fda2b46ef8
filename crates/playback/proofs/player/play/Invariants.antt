use Rattle.std.proofs.Common.{◌≡◌, take}
use Rattle.structural_ops.specs.Worlds.{Grows}
use Rattle.playback.specs.Named.{names_among}
use Rattle.playback.specs.Played.{played}
use Rattle.playback.specs.Players.{IsAt}
use Rattle.playback.proofs.player.play.Given as goal

abbrev pub invariant-loop-entry : goal.invariant-loop-entry
invariant-loop-entry l = record {
  at : IsAt (played l.fn.world.world (take l.entry-index l.entries)) l.world l.player;
  grows : Grows l.fn.world.archetypes l.world.archetypes;
  keeps : l.player.keeps ≡ names_among l.entries;
}
