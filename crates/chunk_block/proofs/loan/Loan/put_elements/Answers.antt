use Rattle.std.proofs.Common.{◌≡◌, ◌∙◌, sym, ap, subst, length, List}
use Rattle.buffer_store.specs.Buffers.{buffer}
use Rattle.block_columns.specs.Types.{TypeState, cell_in, one_row, with_values, TakesElements}
use Rattle.chunk_block.specs.Pieces.{OfPiece, InRow, change_piece, pieces_in}
use Rattle.chunk_block.specs.Blocks.{LoanState, ArePiecesOf}
use Rattle.chunk_block.proofs.Changed.{one_row_keeps}
use Rattle.chunk_block.proofs.Loans.{still_pieces}
use Rattle.chunk_block.proofs.loan.Loan.put_elements.Goals as goal

pub put_elements-requires : goal.put_elements-requires
put_elements-requires c =
    let xs = pieces_in c.self.inside.pieces in
    let of : OfPiece c.args.ty.0 (InRow c.args.row (TakesElements c.args.new)) xs = subst (λ (l : LoanState). OfPiece c.args.ty.0 (InRow c.args.row (TakesElements c.args.new)) l.pieces) (sym c.self.view_is) c.requires in
    of

pub returns-clause-old : goal.returns-clause-old
returns-clause-old c =
    subst (λ (l : LoanState). OfPiece c.args.ty.0 (λ y. c.put_elements.result ≡ buffer (length y.shape.kinds) (cell_in c.args.row y.cells).values) l.pieces) c.self.view_is c.put_elements.ensures.old

pub returns-clause-new : goal.returns-clause-new
returns-clause-new c =
    ap (λ (xs : List TypeState). record { number = c.self.inside.number; types = c.self.inside.types; pieces = xs }) c.put_elements.ensures.new
    ∙ ap (λ (l : LoanState). record l { pieces = change_piece c.args.ty.0 (one_row c.args.row (with_values c.args.new.values)) l.pieces }) c.self.view_is

pub returns-clause-of : goal.returns-clause-of
returns-clause-of c = λ b of.
    subst (ArePiecesOf b) (sym c.put_elements.ensures.new) (still_pieces b c.args.ty.0 (one_row c.args.row (with_values c.args.new.values)) (pieces_in c.self.inside.pieces) (one_row_keeps c.args.row (with_values c.args.new.values))
    (subst (λ (l : LoanState). ArePiecesOf b l.pieces) (sym c.self.view_is) of))
