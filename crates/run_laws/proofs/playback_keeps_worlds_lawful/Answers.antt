use Rattle.run_laws.proofs.PlayLawful.{played_lawful}
use Rattle.run_laws.proofs.playback_keeps_worlds_lawful.Goals as goal

pub returns : goal.returns
returns c = λ capacity room w entries suits lawful. played_lawful capacity room w entries suits lawful
