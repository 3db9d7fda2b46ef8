use Rattle.frame_run.proofs.Found.{AreFirst}
use Rattle.frame_run.proofs.runner.runners_of.Given as goal

-- the runners of the systems so far
abbrev pub invariant-loop-system : goal.invariant-loop-system
invariant-loop-system l = AreFirst l.registry l.systems l.runners.items l.system-index
