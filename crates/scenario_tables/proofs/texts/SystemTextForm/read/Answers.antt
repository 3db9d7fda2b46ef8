use Rattle.scenario_tables.proofs.FirstFaultLemmas.{gives}
use Rattle.scenario_tables.proofs.texts.SystemTextForm.read.Goals as goal

pub returns-clause-answer : goal.returns-clause-answer
returns-clause-answer g c = gives _ _ c.in_ok-text.ensures (c.text_reading.ensures _ c.read_in.ensures)
