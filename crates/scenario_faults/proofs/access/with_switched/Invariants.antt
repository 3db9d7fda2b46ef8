use Rattle.std.proofs.Common.{◌≡◌, drop, map}
use Rattle.scenario_faults.specs.Found.{with_types}
use Rattle.scenario_faults.proofs.access.with_switched.Given as goal

-- the types that are left
abbrev pub invariant-loop-switch : goal.invariant-loop-switch
invariant-loop-switch l =
    with_types l.found (map (λ w. w.ty.0) (drop l.switch-index l.switches)) ≡ with_types l.initial.found (map (λ w. w.ty.0) l.switches)
