use Rattle.std.proofs.Common.{◌≡◌, ◌∙◌, sym, ap, subst, map}
use Rattle.std.specs.Prelude.{⊤}
use Rattle.block_columns.specs.Columns.{value_at}
use Rattle.block_columns.specs.Slices.{slice_values}
use Rattle.block_columns.specs.Types.{TypeState, HasField}
use Rattle.chunk_block.specs.Pieces.{OfPiece, OfShape, pieces_in}
use Rattle.chunk_block.specs.Blocks.{LoanState}
use Rattle.chunk_block.proofs.Loans.{of_piece, found_piece}
use Rattle.chunk_block.proofs.loan.Loan.column.Goals as goal

pub find_rows-requires : goal.find_rows-requires
find_rows-requires c =
    let xs = pieces_in c.self.inside.pieces in
    let of : OfPiece c.args.ty.0 (OfShape (HasField c.args.field)) xs = subst (λ (l : LoanState). OfPiece c.args.ty.0 (OfShape (HasField c.args.field)) l.pieces) (sym c.self.view_is) c.requires in
    of_piece c.args.ty.0 (OfShape (HasField c.args.field)) (λ y. ⊤) xs (λ y h. tt) of

pub column-requires : goal.column-requires
column-requires c =
    let xs = pieces_in c.self.inside.pieces in
    let of : OfPiece c.args.ty.0 (OfShape (HasField c.args.field)) xs = subst (λ (l : LoanState). OfPiece c.args.ty.0 (OfShape (HasField c.args.field)) l.pieces) (sym c.self.view_is) c.requires in
    (found_piece c.args.ty.0 (OfShape (HasField c.args.field)) c.find_rows.result.now xs c.find_rows.ensures of)

pub returns : goal.returns
returns c =
    let xs = pieces_in c.self.inside.pieces in
    subst (λ (l : LoanState). OfPiece c.args.ty.0 (λ y. slice_values c.column.result ≡ map (λ x. value_at c.args.field x.values) y.cells) l.pieces) c.self.view_is
    (of_piece c.args.ty.0 (λ y. c.find_rows.result.now ≡ y) (λ y. slice_values c.column.result ≡ map (λ x. value_at c.args.field x.values) y.cells) xs (λ y same. c.column.ensures ∙ ap (λ (s : TypeState). map (λ x. value_at c.args.field x.values) s.cells) same) c.find_rows.ensures)
