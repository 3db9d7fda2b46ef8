use Rattle.run_model.specs.Job.{no_row}
use Rattle.run_model.specs.Tasks.{no_others}
use Rattle.command_texts.proofs.Suiting.{alone_suits}
use Rattle.command_texts.proofs.laws.commands_of_events_suit.Goals as goal

pub returns : goal.returns
returns c = λ registry frame act entry. alone_suits registry (no_row 0 frame) no_others act entry
