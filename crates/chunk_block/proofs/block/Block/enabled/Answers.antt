use Rattle.std.proofs.Common.{◌<◌, ◌∙◌, not, sym, ap, subst, length}
use Rattle.world_model.specs.Row.{Row}
use Rattle.chunk_block.specs.Pieces.{places_of}
use Rattle.chunk_block.specs.Blocks.{BlockState, is_off, row_in, marks_of}
use Rattle.chunk_block.proofs.Known.{off_shown}
use Rattle.chunk_block.proofs.Places.{row_there}
use Rattle.chunk_block.proofs.Swapped.{all_have_row}
use Rattle.chunk_block.proofs.Views.{size}
use Rattle.chunk_block.proofs.block.Block.enabled.Goals as goal

pub is_enabled-requires : goal.is_enabled-requires
is_enabled-requires c =
    let b = c.self.inside in
    let ps = places_of b.slots.items in
    let n = length b.entities.items in
    let within : c.args.row < n = subst (λ m. c.args.row < m) (size c.args.self.now b.types b.capacity ps b.dying b.entities.items n (marks_of b.marks.items) b.order c.self.view_is) c.requires.within in
    all_have_row n b.capacity c.args.row ps within c.self.invariant.suit

pub returns : goal.returns
returns c =
    let b = c.self.inside in
    let ps = places_of b.slots.items in
    let n = length b.entities.items in
    let within : c.args.row < n = subst (λ m. c.args.row < m) (size c.args.self.now b.types b.capacity ps b.dying b.entities.items n (marks_of b.marks.items) b.order c.self.view_is) c.requires.within in
    c.is_enabled.ensures
    ∙ (ap not (off_shown c.args.ty.0 c.args.row ps)
    ∙ (ap (λ (w : Row). not (is_off c.args.ty.0 w)) (sym (row_there ps b.dying b.entities.items n c.args.row within))
    ∙ ap (λ (s : BlockState). not (is_off c.args.ty.0 (row_in c.args.row s.rows))) c.self.view_is))
