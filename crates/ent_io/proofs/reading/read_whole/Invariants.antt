use Rattle.std.proofs.Common.{◌≡◌, ◌<◌, ◌-◌, ◌≤◌, length}
use Rattle.ent_io.specs.Files.{told_file}
use Rattle.ent_io.specs.Store.{IsFrontOf}
use Rattle.ent_io.proofs.reading.read_whole.Given as goal

-- what is kept is the front of the file, and nothing has failed
abbrev pub invariant-loop-bytes : goal.invariant-loop-bytes
invariant-loop-bytes g l = record {
  space : 0 < length l.chunk.items;
  within : length l.bytes.items ≤ l.limit;
  front : IsFrontOf (told_file (g.S.Store.files l.fn.store) l.name) l.bytes.items;
  files : g.S.Store.files l.store ≡ g.S.Store.files l.fn.store;
  faults : g.S.Store.faults l.store ≡ g.S.Store.faults l.fn.store;
}

abbrev pub decreases-loop-bytes : goal.decreases-loop-bytes
decreases-loop-bytes g l = l.limit - length l.bytes.items
