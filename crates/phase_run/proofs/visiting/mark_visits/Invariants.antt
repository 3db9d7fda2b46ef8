use Rattle.std.proofs.Common.{◌≡◌, take}
use Rattle.structural_ops.specs.Numbered.{with_each}
use Rattle.phase_run.specs.After.{visit_marked}
use Rattle.phase_run.proofs.visiting.mark_visits.Given as goal

-- the blocks of the visits so far are marked
abbrev pub invariant-loop-visit : goal.invariant-loop-visit
invariant-loop-visit l = l.world ≡ with_each (visit_marked (take l.visit-index l.visits) l.initial.world.world.moment l.types) l.initial.world
