use Rattle.std.proofs.Common.{◌≡◌, drop}
use Rattle.world_model.specs.World.{capacity}
use Rattle.structural_ops.specs.Worlds.{Grows}
use Rattle.frame_run.specs.Stages.{events_at}
use Rattle.frame_run.proofs.EventLoop.{AreUnderway}
use Rattle.frame_run.proofs.events.do_events.Given as goal

-- the events so far are done, and those that are left lead to the same world
abbrev pub invariant-loop-number : goal.invariant-loop-number
invariant-loop-number g l = record {
  underway : AreUnderway (capacity l.fn.world.world.registry) l.frame (events_at l.fn.world.world.registry l.frame 0 l.events)
      (events_at l.fn.world.world.registry l.frame l.number (drop l.number l.events)) l.fn.world.world l.world.world (g.W.Sink.text l.fn.out) (g.W.Sink.text l.out);
  types : l.world.world.registry ≡ l.fn.world.world.registry;
  grows : Grows l.fn.world.archetypes l.world.archetypes;
  faults : g.W.Sink.faults l.out ≡ g.W.Sink.faults l.fn.out;
}
