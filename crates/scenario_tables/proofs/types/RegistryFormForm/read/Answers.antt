use Rattle.std.proofs.Common.{◌≡◌, List, subst, arith}
use Rattle.std.proofs.lemmas.Grind.{common_steps}
use Rattle.toml.specs.View.{items_view}
use Rattle.ent_types.specs.declared.type_info.TypeInfo.{TypeInfo}
use Rattle.ent_types.specs.Registries.{built_in_types}
use Rattle.scenario_record.specs.Readings.{Answers}
use Rattle.scenario_tables.specs.ReadKeys.{each_over}
use Rattle.scenario_tables.specs.ReadTypes.{one_more_type}
use Rattle.scenario_tables.proofs.types.RegistryFormForm.read.Goals as goal

pub returns-clause-answer : goal.returns-clause-answer
returns-clause-answer c =
    let same : c.in_ok-built_in.built_in ≡ built_in_types = cc (c.in_ok-built_in.ensures) in
    let read = subst (λ (r : List TypeInfo). Answers (each_over one_more_type r 0 (items_view c.in_ok-values.values.now)) c.each_over.result) same c.each_over.ensures.answer in
    grind (arith, common_steps, read)
