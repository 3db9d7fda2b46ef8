use Rattle.scenario_tables.specs.ReadEvents.{event}
use Rattle.scenario_tables.proofs.FirstFaultLemmas.{reads, then, done, leaves, settles, answered}
use Rattle.scenario_tables.proofs.events.EventFormForm.read.Goals as goal

pub returns-clause-answer : goal.returns-clause-answer
unfolding event
returns-clause-answer c =
    answered (leaves _ (reads c.in_ok-table.ensures) (leaves _ (reads c.in_ok-frame.ensures) (leaves _ c.optional-operation.ensures.answer
    (leaves _ (then _ c.optional-load.ensures.answer (then _ c.optional-label.ensures.answer (then _ c.optional-delay.ensures.answer (then _ c.optional-unload.ensures.answer done))))
    (settles _ c.event_with.ensures c.settled.ensures)))))
