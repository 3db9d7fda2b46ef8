use Rattle.std.proofs.Common.{◌≡◌}
use Rattle.std.specs.List.{filter}
use Rattle.ent_types.specs.Registries.{type_at}
use Rattle.scenario_faults.specs.Found.{with_types}
use Rattle.scenario_faults.proofs.access.with_enableable.Given as goal

-- the types that are left
abbrev pub invariant-loop-ty : goal.invariant-loop-ty
invariant-loop-ty l =
    with_types l.found (filter (λ ty. (type_at l.registry ty).enableable) l.ty-iterator) ≡ with_types l.initial.found (filter (λ ty. (type_at l.registry ty).enableable) l.types)
