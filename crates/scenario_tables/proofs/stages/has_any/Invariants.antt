use Rattle.std.proofs.Common.{◌≡◌, drop, map}
use Rattle.toml.specs.View.{table_view}
use Rattle.scenario_tables.specs.ReadStages.{has_any}
use Rattle.scenario_tables.proofs.stages.has_any.Given as goal

-- the keys that are left
abbrev pub invariant-loop-key : goal.invariant-loop-key
invariant-loop-key l =
    has_any (map (λ key. key.now) (drop l.key-index l.keys)) (table_view l.table) ≡ has_any (map (λ key. key.now) l.keys) (table_view l.table)
