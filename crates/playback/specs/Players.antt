-- What a player keeps of a playback.
use Rattle.std.specs.Prelude.{◌≡◌, ℕ, true}
use Rattle.structural_ops.specs.Worlds.{WorldState}
use Rattle.playback.specs.declared.player.Player.{Player}
use Rattle.playback.specs.Makers.{made_in}
use Rattle.playback.specs.Played.{Playing, made_at}

-- The world and the player are at this state of a playback.
pub record IsAt (p : Playing) (w : WorldState) (y : Player) : Type 0 where
  pub world : w.world ≡ p.world
  pub notes : y.notes ≡ p.notes
  pub made : y.keeps ≡ true → (item row number : ℕ) → made_in y.made item row number ≡ made_at p.made item row number
