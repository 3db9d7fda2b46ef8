use Rattle.std.proofs.Common.{◌∙◌, sym, ap, subst, length, List}
use Rattle.block_columns.specs.Types.{TypeState, all_rows, with_reference_in, TakesReferences}
use Rattle.chunk_block.specs.Pieces.{OfPiece, OfRows, change_piece, pieces_in}
use Rattle.chunk_block.specs.Blocks.{LoanState, ArePiecesOf}
use Rattle.chunk_block.proofs.Changed.{all_rows_keeps}
use Rattle.chunk_block.proofs.Loans.{still_pieces}
use Rattle.chunk_block.proofs.loan.Loan.store_references.Goals as goal

pub store_references-requires : goal.store_references-requires
store_references-requires c =
    let xs = pieces_in c.self.inside.pieces in
    let of : OfPiece c.args.ty.0 (OfRows (length c.args.references.now) (TakesReferences c.args.field)) xs = subst (λ (l : LoanState). OfPiece c.args.ty.0 (OfRows (length c.args.references.now) (TakesReferences c.args.field)) l.pieces) (sym c.self.view_is) c.requires in
    of

pub returns-clause-loan : goal.returns-clause-loan
returns-clause-loan c =
    ap (λ (xs : List TypeState). record { number = c.self.inside.number; types = c.self.inside.types; pieces = xs }) c.store_references.ensures
    ∙ ap (λ (l : LoanState). record l { pieces = change_piece c.args.ty.0 (all_rows (with_reference_in c.args.rows.now c.args.field c.args.references.now)) l.pieces }) c.self.view_is

pub returns-clause-of : goal.returns-clause-of
returns-clause-of c = λ b of.
    subst (ArePiecesOf b) (sym c.store_references.ensures) (still_pieces b c.args.ty.0 (all_rows (with_reference_in c.args.rows.now c.args.field c.args.references.now)) (pieces_in c.self.inside.pieces) (all_rows_keeps (with_reference_in c.args.rows.now c.args.field c.args.references.now))
    (subst (λ (l : LoanState). ArePiecesOf b l.pieces) (sym c.self.view_is) of))
