use Rattle.std.proofs.Common.{◌∙◌, ap, length, List}
use Rattle.world_model.specs.World.{Mark}
use Rattle.chunk_block.specs.Pieces.{places_of}
use Rattle.chunk_block.specs.Blocks.{BlockState, marks_of, with_mark}
use Rattle.chunk_block.proofs.Views.{seen}
use Rattle.chunk_block.proofs.block.Block.mark.Goals as goal

pub returns : goal.returns
returns c =
    let b = c.self.inside in
    let ps = places_of b.slots.items in
    let es = b.entities.items in
    let n = length es in
    let marks = marks_of b.marks.items in
    let inv = c.self.invariant in
    ap (λ (ms : List Mark). seen b.types b.capacity ps b.dying es n ms b.order) c.mark_type.ensures
    ∙ ap (λ (s : BlockState). record s { marks = with_mark c.args.ty.0 c.args.version.0 s.marks }) c.self.view_is
