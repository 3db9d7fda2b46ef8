use Rattle.std.proofs.Common.{◌∙◌, ap, length}
use Rattle.chunk_block.specs.Pieces.{places_of}
use Rattle.chunk_block.specs.Blocks.{BlockState, marks_of, mark_at}
use Rattle.chunk_block.proofs.block.Block.changed.Goals as goal

pub returns : goal.returns
returns c =
    let b = c.self.inside in
    let ps = places_of b.slots.items in
    let es = b.entities.items in
    let n = length es in
    let marks = marks_of b.marks.items in
    let inv = c.self.invariant in
    c.version_of.ensures ∙ ap (λ (s : BlockState). mark_at c.args.ty.0 s.marks) c.self.view_is
