use Rattle.std.proofs.Common.{◌∙◌, sym, ap, subst, List}
use Rattle.block_columns.specs.Types.{TypeState, all_rows, with_enabled_in, IsEnableable}
use Rattle.chunk_block.specs.Pieces.{OfPiece, OfShape, change_piece, pieces_in}
use Rattle.chunk_block.specs.Blocks.{LoanState, ArePiecesOf}
use Rattle.chunk_block.proofs.Changed.{all_rows_keeps}
use Rattle.chunk_block.proofs.Loans.{still_pieces}
use Rattle.chunk_block.proofs.loan.Loan.store_enabled.Goals as goal

pub store_enabled-requires : goal.store_enabled-requires
store_enabled-requires c =
    let xs = pieces_in c.self.inside.pieces in
    let of : OfPiece c.args.ty.0 (OfShape IsEnableable) xs = subst (λ (l : LoanState). OfPiece c.args.ty.0 (OfShape IsEnableable) l.pieces) (sym c.self.view_is) c.requires in
    of

pub returns-clause-loan : goal.returns-clause-loan
returns-clause-loan c =
    ap (λ (xs : List TypeState). record { number = c.self.inside.number; types = c.self.inside.types; pieces = xs }) c.store_enabled.ensures
    ∙ ap (λ (l : LoanState). record l { pieces = change_piece c.args.ty.0 (all_rows (with_enabled_in c.args.rows.now c.args.on.now)) l.pieces }) c.self.view_is

pub returns-clause-of : goal.returns-clause-of
returns-clause-of c = λ b of.
    subst (ArePiecesOf b) (sym c.store_enabled.ensures) (still_pieces b c.args.ty.0 (all_rows (with_enabled_in c.args.rows.now c.args.on.now)) (pieces_in c.self.inside.pieces) (all_rows_keeps (with_enabled_in c.args.rows.now c.args.on.now))
    (subst (λ (l : LoanState). ArePiecesOf b l.pieces) (sym c.self.view_is) of))
