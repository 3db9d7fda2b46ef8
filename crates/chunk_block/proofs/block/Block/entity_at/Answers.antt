use Rattle.std.proofs.Common.{◌<◌, ◌∙◌, sym, ap, subst, length}
use Rattle.world_model.specs.Row.{Row}
use Rattle.chunk_block.specs.Pieces.{places_of}
use Rattle.chunk_block.specs.Blocks.{BlockState, row_in, marks_of}
use Rattle.chunk_block.proofs.Places.{row_there}
use Rattle.chunk_block.proofs.Views.{size}
use Rattle.chunk_block.proofs.block.Block.entity_at.Goals as goal

pub entity_of-requires : goal.entity_of-requires
entity_of-requires c =
    let b = c.self.inside in
    let ps = places_of b.slots.items in
    let es = b.entities.items in
    let n = length es in
    let marks = marks_of b.marks.items in
    let inv = c.self.invariant in
    let within : c.args.row < n = subst (λ m. c.args.row < m) (size c.args.self.now b.types b.capacity ps b.dying es n marks b.order c.self.view_is) c.requires in
    within

pub returns : goal.returns
returns c =
    let b = c.self.inside in
    let ps = places_of b.slots.items in
    let es = b.entities.items in
    let n = length es in
    let marks = marks_of b.marks.items in
    let inv = c.self.invariant in
    let within : c.args.row < n = subst (λ m. c.args.row < m) (size c.args.self.now b.types b.capacity ps b.dying es n marks b.order c.self.view_is) c.requires in
    c.entity_of.ensures ∙ (ap (λ (r : Row). r.entity) (sym (row_there ps b.dying es n c.args.row within)) ∙ ap (λ (s : BlockState). (row_in c.args.row s.rows).entity) c.self.view_is)
