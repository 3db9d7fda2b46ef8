use Rattle.playback.specs.Makers.{maker}
use Rattle.playback.proofs.made.Made.add.Goals as goal

pub returns : goal.returns
returns c = λ item row number. c.in_ok-insert.ensures.updates.0 (maker item row number)
