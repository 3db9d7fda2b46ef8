use Rattle.run_laws.proofs.FrameLawful.{step_lawful}
use Rattle.run_laws.proofs.steps_keep_states_lawful.Goals as goal

pub returns : goal.returns
returns c = λ capacity fits first trace registry st t suits few lawful. step_lawful capacity fits first trace registry st t suits few lawful
