use Rattle.std.proofs.Common.{◌≡◌, ◌++◌, map}
use Rattle.chunk_block.specs.Blocks.{marks_of, new_mark}
use Rattle.chunk_block.proofs.marks.new_marks.Given as goal

-- the marks so far, and those of the types that are left
abbrev pub invariant-loop-ty : goal.invariant-loop-ty
invariant-loop-ty l = marks_of l.marks.items ++ map new_mark l.ty-iterator ≡ map new_mark l.types
