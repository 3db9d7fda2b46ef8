use Rattle.world_text.proofs.WorldLines.{world_text_unchanged}
use Rattle.world_text.proofs.laws.lines_show_no_version.Goals as goal

pub returns : goal.returns
returns c = world_text_unchanged
