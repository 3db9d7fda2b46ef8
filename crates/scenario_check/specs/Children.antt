-- The groups and systems of a scenario by their names.
use Rattle.std.specs.Prelude.{ℕ, ◌+◌, List, ◌++◌, map, position, Option, option_map}
use Rattle.ent_types.specs.Types.{same_name}
use Rattle.scenario_record.specs.declared.record.Scenario.{Scenario}

-- the names of the groups, then those of the systems
abbrev pub child_names : Scenario → List (List ℕ)
child_names s = map (λ g. g.name) s.group ++ map (λ y. y.name) s.system

-- the number of the child with a name, if there is one; the three roots come before the children with these names
abbrev pub number_among : List (List ℕ) → List ℕ → Option ℕ
number_among names name = option_map (λ place. 3 + place) (position (same_name name) names)
