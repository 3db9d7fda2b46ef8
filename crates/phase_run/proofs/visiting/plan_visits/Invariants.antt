use Rattle.std.proofs.Common.{◌≡◌, ◌++◌, drop}
use Rattle.phase_run.specs.After.{loans_for}
use Rattle.phase_run.proofs.visiting.plan_visits.Given as goal

-- the loans so far, and those of the visits that are left
abbrev pub invariant-loop-visit : goal.invariant-loop-visit
invariant-loop-visit l = l.plan ++ loans_for l.types (drop l.visit-index l.visits) ≡ loans_for l.types l.visits
