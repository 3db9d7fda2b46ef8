use Rattle.std.proofs.Common.{◌≡◌}
use Rattle.scenario_faults.specs.Found.{with_types}
use Rattle.scenario_faults.proofs.access.with_set.Given as goal

-- the types that are left
abbrev pub invariant-loop-ty : goal.invariant-loop-ty
invariant-loop-ty l = with_types l.found l.ty-iterator ≡ with_types l.initial.found l.types
