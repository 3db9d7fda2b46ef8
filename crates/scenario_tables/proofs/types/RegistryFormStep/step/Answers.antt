use Rattle.std.proofs.Common.{List, sym, subst, arith}
use Rattle.std.proofs.lemmas.Grind.{common_steps}
use Rattle.toml.specs.View.{view}
use Rattle.ent_types.specs.declared.type_info.TypeInfo.{TypeInfo}
use Rattle.scenario_record.specs.Readings.{Reading}
use Rattle.scenario_tables.specs.FirstFault.{StepsTo}
use Rattle.scenario_tables.specs.ReadTypes.{added}
use Rattle.scenario_tables.proofs.FirstFaultLemmas.{steps}
use Rattle.scenario_tables.proofs.TypeLemmas.{in_two_parts}
use Rattle.scenario_tables.proofs.types.RegistryFormStep.step.Goals as goal

pub returns-in_err-info-clause-answer : goal.returns-in_err-info-clause-answer
returns-in_err-info-clause-answer c =
    let parts = in_two_parts c.args.registry.now (view c.args.value.now) in
    grind (arith, common_steps, parts)

pub returns-clause-answer : goal.returns-clause-answer
returns-clause-answer c =
    let next = added c.args.registry.now in
    subst (λ (m : Reading (List TypeInfo)). StepsTo m c.add.new.registry c.add.result) (sym (in_two_parts c.args.registry.now (view c.args.value.now)))
    (steps _ next _ _ _ c.in_ok-info.ensures.answer c.add.ensures)
