use Rattle.std.proofs.Common.{◌≡◌, drop, map}
use Rattle.scenario_faults.specs.Found.{with_types}
use Rattle.scenario_faults.proofs.access.with_assigned.Given as goal

-- the types that are left
abbrev pub invariant-loop-assign : goal.invariant-loop-assign
invariant-loop-assign l =
    with_types l.found (map (λ a. a.ty.0) (drop l.assign-index l.assigns)) ≡ with_types l.initial.found (map (λ a. a.ty.0) l.assigns)
