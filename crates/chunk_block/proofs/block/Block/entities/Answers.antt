use Rattle.std.proofs.Common.{◌∙◌, ap, refl, length, map}
use Rattle.chunk_block.specs.Pieces.{places_of}
use Rattle.chunk_block.specs.Blocks.{BlockState, marks_of}
use Rattle.chunk_block.proofs.Views.{entities_of_rows}
use Rattle.chunk_block.proofs.block.Block.entities.Goals as goal

pub returns : goal.returns
returns c =
    let b = c.self.inside in
    let ps = places_of b.slots.items in
    let es = b.entities.items in
    let n = length es in
    let marks = marks_of b.marks.items in
    let inv = c.self.invariant in
    c.all_of.ensures ∙ (entities_of_rows ps b.dying es n refl ∙ ap (λ (s : BlockState). map (λ r. r.entity) s.rows) c.self.view_is)
