use Rattle.toml.proofs.Views.{table_get}
use Rattle.scenario_tables.proofs.KeyLemmas.{value_cases}
use Rattle.scenario_tables.proofs.keys.value_of.Goals as goal

pub returns : goal.returns
returns c =
    value_cases c.get.result _ (table_get c.get.result c.args.key.now c.args.table.now.entries c.get.ensures.value)
