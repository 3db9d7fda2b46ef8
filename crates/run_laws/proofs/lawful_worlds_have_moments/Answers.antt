use Rattle.run_laws.proofs.Clocks.{lawful_moments}
use Rattle.run_laws.proofs.lawful_worlds_have_moments.Goals as goal

pub returns : goal.returns
returns c = λ capacity w lawful few. lawful_moments capacity w lawful few
