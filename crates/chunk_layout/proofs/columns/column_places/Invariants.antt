use Rattle.std.proofs.Common.{◌≡◌, ◌+◌, ◌*◌, ◌≤◌, ◌++◌, length, drop}
use Rattle.chunk_layout.specs.Places.{places_from, places_of}
use Rattle.chunk_layout.proofs.columns.column_places.Given as goal

abbrev pub invariant-loop-size : goal.invariant-loop-size
invariant-loop-size l =
    record {
      made : l.places.items ++ places_from l.end l.rows (drop l.size-index l.sizes) ≡ places_of l.rows l.sizes;
      count : length l.places.items ≡ l.size-index;
      bound : l.end ≤ 1088 + 65536 * l.size-index;
    }
