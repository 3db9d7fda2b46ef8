use Rattle.std.proofs.Common.{◌≡◌, ◌++◌, drop}
use Rattle.std.specs.List.{filter_map}
use Rattle.scenario_check.specs.Children.{number_among}
use Rattle.scenario_check.proofs.children.children_named.Given as goal

-- the names that are left
abbrev pub invariant-loop-name : goal.invariant-loop-name
invariant-loop-name l =
    l.numbers ++ filter_map (number_among l.names.keys) (drop l.name-index l.named) ≡ filter_map (number_among l.names.keys) l.named
