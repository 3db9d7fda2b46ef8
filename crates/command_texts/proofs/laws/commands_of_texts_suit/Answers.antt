use Rattle.command_texts.proofs.Suiting.{text_suits}
use Rattle.command_texts.proofs.laws.commands_of_texts_suit.Goals as goal

pub returns : goal.returns
returns c = text_suits
