use Rattle.std.proofs.Common.{◌≡◌}
use Rattle.run_model.specs.Tasks.{tasks_of}
use Rattle.frame_run.specs.Runners.{IsReady, stage_of}
use Rattle.frame_run.specs.Stages.{no_files}
use Rattle.frame_run.proofs.Loops.{IsUnderway, frames_left}
use Rattle.frame_run.proofs.frames.run_frames.Given as goal

-- the frames so far are run
abbrev pub invariant-loop-before : goal.invariant-loop-before
invariant-loop-before g l = record {
  underway : IsUnderway l.scenario l.trace (tasks_of no_files l.scenario l.steps) (frames_left l.scenario l.steps l.before)
      (stage_of l.fn.world l.fn.runners) (stage_of l.world l.runners) (g.W.Sink.text l.fn.out) (g.W.Sink.text l.out);
  ready : IsReady l.scenario l.world l.runners;
  faults : g.W.Sink.faults l.out ≡ g.W.Sink.faults l.fn.out;
}
