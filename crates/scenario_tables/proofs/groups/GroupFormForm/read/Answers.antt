use Rattle.scenario_tables.specs.ReadGroups.{group}
use Rattle.scenario_tables.proofs.FirstFaultLemmas.{reads, leaves, settles, answered}
use Rattle.scenario_tables.proofs.groups.GroupFormForm.read.Goals as goal

pub returns-clause-answer : goal.returns-clause-answer
unfolding group
returns-clause-answer c =
    answered (leaves _ (reads c.in_ok-table.ensures) (leaves _ (reads c.in_ok-name.ensures) (leaves _ c.group_named-parent.ensures (leaves _ c.placement_of-placement.ensures
    (settles _ c.group_with.ensures c.settled.ensures)))))
