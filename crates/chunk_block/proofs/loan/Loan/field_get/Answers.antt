use Rattle.std.proofs.Common.{◌≡◌, ◌∙◌, sym, ap, subst}
use Rattle.std.specs.Prelude.{⊤}
use Rattle.block_columns.specs.Columns.{value_at}
use Rattle.block_columns.specs.Types.{TypeState, cell_in, HasField}
use Rattle.chunk_block.specs.Pieces.{OfPiece, InRow, pieces_in}
use Rattle.chunk_block.specs.Blocks.{LoanState}
use Rattle.chunk_block.proofs.Loans.{of_piece, found_piece}
use Rattle.chunk_block.proofs.loan.Loan.field_get.Goals as goal

pub find_rows-requires : goal.find_rows-requires
find_rows-requires c =
    let xs = pieces_in c.self.inside.pieces in
    let of : OfPiece c.args.ty.0 (InRow c.args.row (HasField c.args.field)) xs = subst (λ (l : LoanState). OfPiece c.args.ty.0 (InRow c.args.row (HasField c.args.field)) l.pieces) (sym c.self.view_is) c.requires in
    of_piece c.args.ty.0 (InRow c.args.row (HasField c.args.field)) (λ y. ⊤) xs (λ y h. tt) of

pub get-requires-clause-within : goal.get-requires-clause-within
get-requires-clause-within c =
    let xs = pieces_in c.self.inside.pieces in
    let of : OfPiece c.args.ty.0 (InRow c.args.row (HasField c.args.field)) xs = subst (λ (l : LoanState). OfPiece c.args.ty.0 (InRow c.args.row (HasField c.args.field)) l.pieces) (sym c.self.view_is) c.requires in
    (found_piece c.args.ty.0 (InRow c.args.row (HasField c.args.field)) c.find_rows.result.now xs c.find_rows.ensures of).0

pub get-requires-clause-there : goal.get-requires-clause-there
get-requires-clause-there c =
    let xs = pieces_in c.self.inside.pieces in
    let of : OfPiece c.args.ty.0 (InRow c.args.row (HasField c.args.field)) xs = subst (λ (l : LoanState). OfPiece c.args.ty.0 (InRow c.args.row (HasField c.args.field)) l.pieces) (sym c.self.view_is) c.requires in
    (found_piece c.args.ty.0 (InRow c.args.row (HasField c.args.field)) c.find_rows.result.now xs c.find_rows.ensures of).1

pub returns : goal.returns
returns c =
    let xs = pieces_in c.self.inside.pieces in
    subst (λ (l : LoanState). OfPiece c.args.ty.0 (λ y. c.get.result ≡ value_at c.args.field (cell_in c.args.row y.cells).values) l.pieces) c.self.view_is
    (of_piece c.args.ty.0 (λ y. c.find_rows.result.now ≡ y) (λ y. c.get.result ≡ value_at c.args.field (cell_in c.args.row y.cells).values) xs (λ y same. c.get.ensures ∙ ap (λ (s : TypeState). value_at c.args.field (cell_in c.args.row s.cells).values) same) c.find_rows.ensures)
