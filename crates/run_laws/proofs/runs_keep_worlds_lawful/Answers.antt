use Rattle.run_laws.proofs.RunLawful.{run_lawful}
use Rattle.run_laws.proofs.runs_keep_worlds_lawful.Goals as goal

pub returns : goal.returns
returns c = λ capacity first s last frame w suits lawful. run_lawful capacity first s last frame w suits lawful
