use Rattle.std.proofs.Common.{◌≡◌, drop, map}
use Rattle.ent_types.specs.Types.{same_name}
use Rattle.indexmap.specs.IndexSet.{insert_all}
use Rattle.scenario_check.proofs.children.add_groups.Given as goal

-- the names that are left
abbrev pub invariant-loop-group : goal.invariant-loop-group
invariant-loop-group l =
    insert_all same_name l.names.keys (map (λ x. x.name) (drop l.group-index l.groups)) ≡ insert_all same_name l.initial.names.keys (map (λ x. x.name) l.groups)
