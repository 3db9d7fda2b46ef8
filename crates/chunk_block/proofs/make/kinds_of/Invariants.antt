use Rattle.std.proofs.Common.{◌≡◌, take, map}
use Rattle.chunk_block.proofs.make.kinds_of.Given as goal

-- the kinds so far
abbrev pub invariant-loop-field : goal.invariant-loop-field
invariant-loop-field l = l.kinds ≡ map (λ f. f.kind) (take l.field-index l.fields)
