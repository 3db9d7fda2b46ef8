use Rattle.command_texts.proofs.Alone.{world_is, lines_are, state_is}
use Rattle.command_texts.proofs.laws.commands_of_events_play_as_defined.Goals as goal

pub returns-clause-world : goal.returns-clause-world
returns-clause-world c = world_is

pub returns-clause-lines : goal.returns-clause-lines
returns-clause-lines c = λ w frame k act entry is. lines_are w frame act entry is k

pub returns-clause-state : goal.returns-clause-state
returns-clause-state c = state_is
