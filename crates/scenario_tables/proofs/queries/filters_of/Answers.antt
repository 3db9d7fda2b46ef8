use Rattle.std.proofs.Common.{[], codes}
use Rattle.toml.specs.View.{table_view}
use Rattle.ent_types.specs.declared.limits.TheConstants.{MOST_CHANGED}
use Rattle.scenario_tables.specs.Parts.{unshared_of}
use Rattle.scenario_tables.specs.ReadTypeLists.{type_list, none_beside}
use Rattle.scenario_tables.proofs.FirstFaultLemmas.{then, done, reads_changed}
use Rattle.scenario_tables.proofs.queries.filters_of.Goals as goal

pub returns : goal.returns
returns c =
    let named = rw (c.none_beside-none_changed.ensures, c.empty-none_taken.ensures) at c.optional-changed.ensures.answer in
    let types = type_list MOST_CHANGED c.args.registry.now (unshared_of c.args.all.now) [] in
    then _ c.optional-include_disabled.ensures.answer (then _ c.optional-include_prefab.ensures.answer
    (then _ (reads_changed (λ n. n.found) (codes "changed") (none_beside []) types (table_view c.args.table.now) named)
    (then _ c.optional-order_changed.ensures.answer (then _ c.list_under-shared.ensures.answer done))))
