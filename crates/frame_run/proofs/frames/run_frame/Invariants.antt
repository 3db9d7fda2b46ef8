use Rattle.std.proofs.Common.{◌≡◌}
use Rattle.frame_run.specs.Doing.{tasks_of_steps}
use Rattle.frame_run.specs.Runners.{IsReady, stage_of}
use Rattle.frame_run.proofs.Loops.{IsUnderway, steps_left}
use Rattle.frame_run.proofs.frames.run_frame.Given as goal

-- the steps so far are done
abbrev pub invariant-loop-step : goal.invariant-loop-step
invariant-loop-step g l = record {
  underway : IsUnderway l.scenario l.trace (tasks_of_steps l.scenario l.frame l.steps) (steps_left l.scenario l.frame l.steps l.step-index)
      (stage_of l.fn.world l.fn.runners) (stage_of l.world l.runners) (g.W.Sink.text l.fn.out) (g.W.Sink.text l.out);
  ready : IsReady l.scenario l.world l.runners;
  faults : g.W.Sink.faults l.out ≡ g.W.Sink.faults l.fn.out;
}
