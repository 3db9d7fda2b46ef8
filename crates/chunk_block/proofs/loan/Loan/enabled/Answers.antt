use Rattle.std.proofs.Common.{◌∙◌, not, sym, ap, subst}
use Rattle.chunk_block.specs.Pieces.{IfPiece, HasTheRow, piece_off}
use Rattle.chunk_block.specs.Blocks.{LoanState}
use Rattle.chunk_block.proofs.loan.Loan.enabled.Goals as goal

pub is_enabled-requires : goal.is_enabled-requires
is_enabled-requires c = subst (λ (l : LoanState). IfPiece c.args.ty.0 (HasTheRow c.args.row) l.pieces) (sym c.self.view_is) c.requires

pub returns : goal.returns
returns c = c.is_enabled.ensures ∙ ap (λ (l : LoanState). not (piece_off c.args.row c.args.ty.0 l.pieces)) c.self.view_is
