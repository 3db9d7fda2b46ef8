use Rattle.std.proofs.Common.{◌≡◌, subst, length, map}
use Rattle.std.specs.Prelude.{IfSome, MatchOption}
use Rattle.chunk_block.specs.Pieces.{places_of}
use Rattle.chunk_block.specs.Blocks.{BlockState, content_at, OfType, Lacks}
use Rattle.chunk_block.proofs.Known.{found_shape, found_cells}
use Rattle.chunk_block.proofs.block.Block.rows_of.Goals as goal

pub returns-clause-shape : goal.returns-clause-shape
returns-clause-shape c =
    let b = c.self.inside in
    let ps = places_of b.slots.items in
    subst (λ (s : BlockState). MatchOption c.look_up.result (Lacks c.args.ty.0 s.columns) (λ rows. OfType c.args.ty.0 (λ shape. rows.now.shape ≡ shape) s.columns)) c.self.view_is
    (found_shape (length b.entities.items) b.capacity c.args.ty.0 (λ rows. rows.now) c.look_up.result ps c.self.invariant.suit c.look_up.ensures)

pub returns-clause-cells : goal.returns-clause-cells
returns-clause-cells c =
    let b = c.self.inside in
    let ps = places_of b.slots.items in
    subst (λ (s : BlockState). IfSome c.look_up.result (λ rows. rows.now.cells ≡ map (λ r. content_at c.args.ty.0 r.cells) s.rows)) c.self.view_is
    (found_cells (length b.entities.items) b.capacity c.args.ty.0 (λ rows. rows.now) c.look_up.result ps b.dying b.entities.items c.self.invariant.suit c.look_up.ensures)
