use Rattle.std.proofs.Common.{ℕ, ◌≡◌, ◌∙◌, sym, ap, subst}
use Rattle.std.specs.Prelude.{⊤}
use Rattle.enable_bits.specs.Masks.{has}
use Rattle.block_columns.specs.Types.{TypeState, cell_in}
use Rattle.chunk_block.specs.Pieces.{OfPiece, pieces_in}
use Rattle.chunk_block.specs.Blocks.{LoanState}
use Rattle.chunk_block.proofs.Loans.{of_piece}
use Rattle.chunk_block.proofs.loan.Loan.disabled.Goals as goal

pub find_rows-requires : goal.find_rows-requires
find_rows-requires c =
    let xs = pieces_in c.self.inside.pieces in
    let of : OfPiece c.args.ty.0 (λ _. ⊤) xs = subst (λ (l : LoanState). OfPiece c.args.ty.0 (λ _. ⊤) l.pieces) (sym c.self.view_is) c.requires in
    of_piece c.args.ty.0 (λ _. ⊤) (λ y. ⊤) xs (λ y h. tt) of

pub returns : goal.returns
returns c =
    let xs = pieces_in c.self.inside.pieces in
    subst (λ (l : LoanState). OfPiece c.args.ty.0 (λ y. (k : ℕ) → has c.disabled.result k ≡ (cell_in k y.cells).off) l.pieces) c.self.view_is
    (of_piece c.args.ty.0 (λ y. c.find_rows.result.now ≡ y) (λ y. (k : ℕ) → has c.disabled.result k ≡ (cell_in k y.cells).off) xs (λ y same. λ k. c.disabled.ensures k ∙ ap (λ (s : TypeState). (cell_in k s.cells).off) same) c.find_rows.ensures)
