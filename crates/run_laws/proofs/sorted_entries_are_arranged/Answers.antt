use Rattle.run_laws.proofs.Arrange.{arranged_is}
use Rattle.run_laws.proofs.sorted_entries_are_arranged.Goals as goal

pub returns : goal.returns
returns c = λ es fs differ moved sorted. arranged_is es fs differ moved sorted
