use Rattle.std.proofs.Common.{◌∙◌, sym, ap, subst, length, List}
use Rattle.block_columns.specs.Types.{TypeState, TakesNumbers}
use Rattle.chunk_block.specs.Pieces.{OfPiece, OfRows, change_piece, stored_numbers, pieces_in}
use Rattle.chunk_block.specs.Blocks.{LoanState, ArePiecesOf}
use Rattle.chunk_block.proofs.Views.{stored_keeps}
use Rattle.chunk_block.proofs.Loans.{still_pieces}
use Rattle.chunk_block.proofs.loan.Loan.store.Goals as goal

pub store-requires : goal.store-requires
store-requires c =
    let xs = pieces_in c.self.inside.pieces in
    let of : OfPiece c.args.ty.0 (OfRows (length c.args.numbers.now) (TakesNumbers c.args.field)) xs = subst (λ (l : LoanState). OfPiece c.args.ty.0 (OfRows (length c.args.numbers.now) (TakesNumbers c.args.field)) l.pieces) (sym c.self.view_is) c.requires in
    of

pub returns-clause-loan : goal.returns-clause-loan
returns-clause-loan c =
    ap (λ (xs : List TypeState). record { number = c.self.inside.number; types = c.self.inside.types; pieces = xs }) c.store.ensures
    ∙ ap (λ (l : LoanState). record l { pieces = change_piece c.args.ty.0 (stored_numbers c.args.rows.now c.args.field c.args.numbers.now) l.pieces }) c.self.view_is

pub returns-clause-of : goal.returns-clause-of
returns-clause-of c = λ b of.
    subst (ArePiecesOf b) (sym c.store.ensures) (still_pieces b c.args.ty.0 (stored_numbers c.args.rows.now c.args.field c.args.numbers.now) (pieces_in c.self.inside.pieces) (stored_keeps c.args.rows.now c.args.field c.args.numbers.now)
    (subst (λ (l : LoanState). ArePiecesOf b l.pieces) (sym c.self.view_is) of))
