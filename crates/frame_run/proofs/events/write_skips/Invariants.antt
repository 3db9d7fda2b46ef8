use Rattle.std.proofs.Common.{◌≡◌, drop}
use Rattle.ent_io.specs.Text.{Leaves}
use Rattle.frame_run.proofs.EventLoop.{skips_text}
use Rattle.frame_run.proofs.events.write_skips.Given as goal

-- the lines so far, and those of the notes that are left
abbrev pub invariant-loop-note : goal.invariant-loop-note
invariant-loop-note g l = record {
  text : Leaves (skips_text l.frame l.number l.notes) (skips_text l.frame l.number (drop l.note-index l.notes)) (g.W.Sink.text l.fn.out) (g.W.Sink.text l.out);
  faults : g.W.Sink.faults l.out ≡ g.W.Sink.faults l.fn.out;
}
