use Rattle.std.proofs.Common.{◌≡◌}
use Rattle.chunk_block.specs.Pieces.{places_of, pieces_in, put_all}
use Rattle.chunk_block.proofs.slot.put_pieces.Given as goal

abbrev pub invariant-loop-list : goal.invariant-loop-list
invariant-loop-list l = put_all (places_of l.slots) (pieces_in l.list) ≡ put_all (places_of l.fn.slots) (pieces_in l.fn.list)
