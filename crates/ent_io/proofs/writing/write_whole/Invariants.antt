use Rattle.std.proofs.Common.{◌≡◌, ◌-◌, ◌≤◌, length, take}
use Rattle.ent_io.specs.Text.{appended}
use Rattle.ent_io.proofs.writing.write_whole.Given as goal

-- the front up to `written` has been appended, and nothing has failed
abbrev pub invariant-loop-written : goal.invariant-loop-written
invariant-loop-written g l = record {
  within : l.written ≤ length l.piece;
  text : g.W.Sink.text l.out ≡ appended (g.W.Sink.text l.fn.out) (take l.written l.piece);
  faults : g.W.Sink.faults l.out ≡ g.W.Sink.faults l.fn.out;
}

abbrev pub decreases-loop-written : goal.decreases-loop-written
decreases-loop-written g l = length l.piece - l.written
