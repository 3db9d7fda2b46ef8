use Rattle.run_laws.proofs.Moments.{run_has_moments}
use Rattle.run_laws.proofs.runs_have_few_moments.Goals as goal

pub returns : goal.returns
returns c = λ trace files s ordered frames systems n. run_has_moments trace files s ordered frames systems n
