use Rattle.std.proofs.Common.{◌≡◌, drop}
use Rattle.std.specs.List.{find}
use Rattle.ent_types.specs.Types.{same_name}
use Rattle.scenario_faults.proofs.siblings.child_named.Given as goal

-- the children that are left
abbrev pub invariant-loop-other : goal.invariant-loop-other
invariant-loop-other l = find (λ other. same_name l.name other.name) (drop l.other-index l.all) ≡ find (λ other. same_name l.name other.name) l.all
