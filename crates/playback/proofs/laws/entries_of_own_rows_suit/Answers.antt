use Rattle.playback.proofs.OwnRows.{own_suit}
use Rattle.playback.proofs.laws.entries_of_own_rows_suit.Goals as goal

pub returns : goal.returns
returns c = own_suit
