use Rattle.run_laws.proofs.FrameLawful.{run_lawful_all}
use Rattle.run_laws.proofs.runs_keep_states_lawful.Goals as goal

pub returns : goal.returns
returns c = λ capacity fits first trace registry st ts suits few lawful. run_lawful_all capacity fits first trace registry st ts suits few lawful
