use Rattle.std.proofs.Common.{◌≡◌, ◌++◌}
use Rattle.chunk_block.specs.Pieces.{places_of}
use Rattle.chunk_block.specs.Blocks.{new_places}
use Rattle.chunk_block.proofs.make.new_slots.Given as goal

-- the slots so far, and those of the types that are left
abbrev pub invariant-loop-ty : goal.invariant-loop-ty
invariant-loop-ty l = places_of l.slots.items ++ new_places l.registry l.capacity l.ty-iterator ≡ new_places l.registry l.capacity l.types
