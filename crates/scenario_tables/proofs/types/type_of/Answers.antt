use Rattle.std.proofs.Common.{◌≤◌, length, refl, arith}
use Rattle.ent_types.specs.declared.limits.TheConstants.{MOST_FIELDS}
use Rattle.ent_types.specs.declared.type_info.TypeInfo.{TypeInfo}
use Rattle.scenario_tables.specs.ReadTypes.{type_table}
use Rattle.scenario_tables.proofs.FirstFaultLemmas.{reads, leaves, settles, settled_ok, answered}
use Rattle.scenario_tables.proofs.types.type_of.Goals as goal

pub returns-clause-answer : goal.returns-clause-answer
unfolding type_table
returns-clause-answer c =
    answered (leaves _ (reads c.in_ok-table.ensures) (leaves _ (reads c.in_ok-name.ensures) (leaves _ c.optional-kind.ensures.answer
    (leaves _ c.list_under-fields.ensures.answer (leaves _ c.optional-enableable.ensures.answer (settles _ refl c.settled.ensures))))))

pub returns-clause-few : goal.returns-clause-few
returns-clause-few c =
    settled_ok (λ (info : TypeInfo). length info.fields ≤ MOST_FIELDS) _ _ c.settled.result (c.list_under-fields.ensures.sound (omega arith)) c.settled.ensures
