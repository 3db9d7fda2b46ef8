use Rattle.std.proofs.Common.{◌≡◌, subst}
use Rattle.std.specs.Prelude.{MatchOption}
use Rattle.chunk_block.specs.Pieces.{OfPiece, LacksPiece}
use Rattle.chunk_block.specs.Blocks.{LoanState}
use Rattle.chunk_block.proofs.loan.Loan.rows_of.Goals as goal

pub returns : goal.returns
returns c =
    subst (λ (l : LoanState). MatchOption c.look_up.result (LacksPiece c.args.ty.0 l.pieces) (λ rows. OfPiece c.args.ty.0 (λ t. rows.now ≡ t) l.pieces)) c.self.view_is c.look_up.ensures
