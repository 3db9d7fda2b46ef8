use Rattle.scenario_tables.proofs.FirstFaultLemmas.{then, done}
use Rattle.scenario_tables.proofs.groups.placement_of.Goals as goal

pub returns : goal.returns
returns c =
    then _ c.list_under-before.ensures.answer (then _ c.list_under-after.ensures.answer (then _ c.optional-first.ensures.answer (then _ c.optional-last.ensures.answer done)))
