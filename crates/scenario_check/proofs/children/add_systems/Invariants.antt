use Rattle.std.proofs.Common.{◌≡◌, drop, map}
use Rattle.ent_types.specs.Types.{same_name}
use Rattle.indexmap.specs.IndexSet.{insert_all}
use Rattle.scenario_check.proofs.children.add_systems.Given as goal

-- the names that are left
abbrev pub invariant-loop-system : goal.invariant-loop-system
invariant-loop-system l =
    insert_all same_name l.names.keys (map (λ x. x.name) (drop l.system-index l.systems)) ≡ insert_all same_name l.initial.names.keys (map (λ x. x.name) l.systems)
