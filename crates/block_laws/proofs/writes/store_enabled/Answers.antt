use Rattle.std.proofs.Common.{◌≡◌, ◌∙◌, sym, ap, subst, length}
use Rattle.block_columns.specs.Types.{with_enabled_in, all_rows, IsEnableable}
use Rattle.chunk_block.specs.Pieces.{OfPiece, OfShape, change_piece}
use Rattle.chunk_block.specs.Blocks.{BlockState, LoanState}
use Rattle.chunk_block.proofs.Loans.{of_piece, lent_there}
use Rattle.block_laws.specs.Lending.{given_back, lent_pieces}
use Rattle.block_laws.proofs.Written.{each_row_back}
use Rattle.block_laws.proofs.writes.store_enabled.Goals as goal

pub store_enabled-requires : goal.store_enabled-requires
store_enabled-requires c =
    let b = c.args.block.now in
    let ts = c.args.types.now in
    subst (λ (l : LoanState). OfPiece c.args.ty.0 (OfShape IsEnableable) l.pieces) (sym c.lend-loan.ensures.loan)
    (of_piece c.args.ty.0 (λ x. (length b.rows ≡ length x.cells) × IsEnableable x.shape) (OfShape IsEnableable) (lent_pieces ts b) (λ x h. h.1)
    (lent_there ts b.capacity b.rows c.args.ty.0 IsEnableable b.columns c.requires.among c.requires.there))

pub give_back-requires : goal.give_back-requires
give_back-requires c = c.store_enabled.ensures.of c.lend-loan.new.self c.lend-loan.ensures.own

pub returns : goal.returns
returns c =
    let b = c.args.block.now in
    let ts = c.args.types.now in
    let loan = c.store_enabled.new.self in
    let pieces = ap (λ (l : LoanState). l.pieces) c.store_enabled.ensures.loan ∙ ap (λ (l : LoanState). change_piece c.args.ty.0 (all_rows (with_enabled_in c.args.rows.now c.args.on.now)) l.pieces) c.lend-loan.ensures.loan in
    c.give_back.ensures.block
    ∙ (ap (λ (x : BlockState). given_back x loan) c.lend-loan.ensures.block
    ∙ each_row_back ts b loan c.args.ty.0 (with_enabled_in c.args.rows.now c.args.on.now) IsEnableable c.types.ensures.distinct c.types.ensures.cells c.requires.held c.requires.among c.requires.there pieces)
