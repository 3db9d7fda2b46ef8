use Rattle.std.proofs.Common.{◌≡◌, map}
use Rattle.toml.specs.View.{members_view, table_view}
use Rattle.scenario_tables.specs.ReadKeys.{unknown_key}
use Rattle.scenario_tables.proofs.keys.only_known.Given as goal

abbrev pub invariant-loop-key : goal.invariant-loop-key
invariant-loop-key l =
    unknown_key (map (λ name. name.now) l.known) (members_view l.key-iterator) ≡ unknown_key (map (λ name. name.now) l.known) (table_view l.table)
