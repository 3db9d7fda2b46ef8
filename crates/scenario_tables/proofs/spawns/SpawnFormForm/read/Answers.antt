use Rattle.std.proofs.Common.{refl}
use Rattle.scenario_tables.specs.ReadSpawns.{spawn}
use Rattle.scenario_tables.proofs.FirstFaultLemmas.{reads, leaves, settles, answered}
use Rattle.scenario_tables.proofs.spawns.SpawnFormForm.read.Goals as goal

pub returns-clause-answer : goal.returns-clause-answer
unfolding spawn
returns-clause-answer c =
    let disabled = rw (c.types_of-types.ensures, c.as_slice.ensures, c.empty.ensures) at c.optional-disabled.ensures.answer in
    answered (leaves _ (reads c.in_ok-table.ensures) (leaves _ c.optional-count.ensures.answer (leaves _ c.list_under-parts.ensures.answer
    (leaves _ disabled (settles _ refl c.settled.ensures)))))
