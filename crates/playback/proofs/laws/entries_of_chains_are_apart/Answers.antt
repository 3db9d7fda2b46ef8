use Rattle.playback.proofs.Apart.{chains_apart}
use Rattle.playback.proofs.laws.entries_of_chains_are_apart.Goals as goal

pub returns : goal.returns
returns c = chains_apart
