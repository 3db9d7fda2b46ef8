use Rattle.scenario_tables.specs.ReadSystems.{system}
use Rattle.scenario_tables.proofs.FirstFaultLemmas.{reads, then, done, leaves, settles, answered}
use Rattle.scenario_tables.proofs.systems.SystemFormForm.read.Goals as goal

pub returns-clause-answer : goal.returns-clause-answer
unfolding system
returns-clause-answer c =
    let acts = rw c.bound_types.ensures at c.acts_of-acts.ensures in
    answered (leaves _ (reads c.in_ok-table.ensures)
    (leaves _ (then _ (reads c.in_ok-name.ensures) (then _ c.group_named-group.ensures (then _ c.placement_of-placement.ensures (then _ c.optional-every.ensures.answer done))))
    (leaves _ (then _ c.clauses_of-clauses.ensures (then _ c.filters_of-filters.ensures (then _ acts done)))
    (settles _ c.placed.ensures c.settled.ensures))))
