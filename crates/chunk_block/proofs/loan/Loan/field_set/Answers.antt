use Rattle.std.proofs.Common.{◌∙◌, sym, ap, subst, List}
use Rattle.block_columns.specs.Types.{TypeState, one_row, with_value, TakesValue}
use Rattle.chunk_block.specs.Pieces.{OfPiece, InRow, change_piece, pieces_in}
use Rattle.chunk_block.specs.Blocks.{LoanState, ArePiecesOf}
use Rattle.chunk_block.proofs.Changed.{one_row_keeps}
use Rattle.chunk_block.proofs.Loans.{still_pieces}
use Rattle.chunk_block.proofs.loan.Loan.field_set.Goals as goal

pub set_value-requires : goal.set_value-requires
set_value-requires c =
    let xs = pieces_in c.self.inside.pieces in
    let of : OfPiece c.args.ty.0 (InRow c.args.row (TakesValue c.args.field c.args.value)) xs = subst (λ (l : LoanState). OfPiece c.args.ty.0 (InRow c.args.row (TakesValue c.args.field c.args.value)) l.pieces) (sym c.self.view_is) c.requires in
    of

pub returns-clause-loan : goal.returns-clause-loan
returns-clause-loan c =
    ap (λ (xs : List TypeState). record { number = c.self.inside.number; types = c.self.inside.types; pieces = xs }) c.set_value.ensures
    ∙ ap (λ (l : LoanState). record l { pieces = change_piece c.args.ty.0 (one_row c.args.row (with_value c.args.field c.args.value)) l.pieces }) c.self.view_is

pub returns-clause-of : goal.returns-clause-of
returns-clause-of c = λ b of.
    subst (ArePiecesOf b) (sym c.set_value.ensures) (still_pieces b c.args.ty.0 (one_row c.args.row (with_value c.args.field c.args.value)) (pieces_in c.self.inside.pieces) (one_row_keeps c.args.row (with_value c.args.field c.args.value))
    (subst (λ (l : LoanState). ArePiecesOf b l.pieces) (sym c.self.view_is) of))
