use Rattle.run_laws.proofs.EntriesSuit.{entries_suit}
use Rattle.run_laws.proofs.recorded_entries_suit_the_world.Goals as goal

pub returns : goal.returns
returns c = λ clock s last frame w suits. entries_suit clock s last frame w suits
