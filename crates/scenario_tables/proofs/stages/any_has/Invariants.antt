use Rattle.std.proofs.Common.{◌≡◌, drop, map}
use Rattle.toml.specs.View.{items_view}
use Rattle.scenario_tables.specs.ReadStages.{any_has}
use Rattle.scenario_tables.proofs.stages.any_has.Given as goal

-- the values that are left
abbrev pub invariant-loop-value : goal.invariant-loop-value
invariant-loop-value l =
    any_has (map (λ key. key.now) l.keys) (items_view (drop l.value-index l.values)) ≡ any_has (map (λ key. key.now) l.keys) (items_view l.values)
