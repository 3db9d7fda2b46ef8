use Rattle.std.proofs.Common.{◌≡◌, ◌∙◌, sym, ap, subst, length}
use Rattle.std.specs.Prelude.{⊤}
use Rattle.buffer_store.specs.Buffers.{buffer}
use Rattle.block_columns.specs.Types.{TypeState, cell_in, IsBuffer}
use Rattle.chunk_block.specs.Pieces.{OfPiece, InRow, pieces_in}
use Rattle.chunk_block.specs.Blocks.{LoanState}
use Rattle.chunk_block.proofs.Loans.{of_piece, found_piece}
use Rattle.chunk_block.proofs.loan.Loan.elements_at.Goals as goal

pub find_rows-requires : goal.find_rows-requires
find_rows-requires c =
    let xs = pieces_in c.self.inside.pieces in
    let of : OfPiece c.args.ty.0 (InRow c.args.row IsBuffer) xs = subst (λ (l : LoanState). OfPiece c.args.ty.0 (InRow c.args.row IsBuffer) l.pieces) (sym c.self.view_is) c.requires in
    of_piece c.args.ty.0 (InRow c.args.row IsBuffer) (λ y. ⊤) xs (λ y h. tt) of

pub elements_at-requires-clause-within : goal.elements_at-requires-clause-within
elements_at-requires-clause-within c =
    let xs = pieces_in c.self.inside.pieces in
    let of : OfPiece c.args.ty.0 (InRow c.args.row IsBuffer) xs = subst (λ (l : LoanState). OfPiece c.args.ty.0 (InRow c.args.row IsBuffer) l.pieces) (sym c.self.view_is) c.requires in
    (found_piece c.args.ty.0 (InRow c.args.row IsBuffer) c.find_rows.result.now xs c.find_rows.ensures of).0

pub elements_at-requires-clause-buffer : goal.elements_at-requires-clause-buffer
elements_at-requires-clause-buffer c =
    let xs = pieces_in c.self.inside.pieces in
    let of : OfPiece c.args.ty.0 (InRow c.args.row IsBuffer) xs = subst (λ (l : LoanState). OfPiece c.args.ty.0 (InRow c.args.row IsBuffer) l.pieces) (sym c.self.view_is) c.requires in
    (found_piece c.args.ty.0 (InRow c.args.row IsBuffer) c.find_rows.result.now xs c.find_rows.ensures of).1

pub returns : goal.returns
returns c =
    let xs = pieces_in c.self.inside.pieces in
    subst (λ (l : LoanState). OfPiece c.args.ty.0 (λ y. c.elements_at.result.now ≡ buffer (length y.shape.kinds) (cell_in c.args.row y.cells).values) l.pieces) c.self.view_is
    (of_piece c.args.ty.0 (λ y. c.find_rows.result.now ≡ y) (λ y. c.elements_at.result.now ≡ buffer (length y.shape.kinds) (cell_in c.args.row y.cells).values) xs (λ y same. c.elements_at.ensures ∙ ap (λ (s : TypeState). buffer (length s.shape.kinds) (cell_in c.args.row s.cells).values) same) c.find_rows.ensures)
