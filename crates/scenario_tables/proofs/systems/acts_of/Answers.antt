use Rattle.scenario_tables.proofs.FirstFaultLemmas.{then, done}
use Rattle.scenario_tables.proofs.systems.acts_of.Goals as goal

pub returns : goal.returns
returns c = then _ c.list_under-set.ensures.answer (then _ c.list_under-enable.ensures.answer (then _ c.list_under-command.ensures.answer done))
