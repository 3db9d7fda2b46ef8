use Rattle.playback.proofs.OwnRows.{own_apart}
use Rattle.playback.proofs.laws.entries_of_own_rows_are_apart.Goals as goal

pub returns : goal.returns
returns c = own_apart
