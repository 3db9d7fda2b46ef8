use Rattle.playback.proofs.Playing.{played_as_defined}
use Rattle.playback.proofs.laws.entries_of_own_rows_play_as_defined.Goals as goal

pub returns : goal.returns
returns c = played_as_defined
