use Rattle.std.proofs.Common.{◌<◌, ◌∙◌, sym, ap, subst, length}
use Rattle.block_columns.specs.Types.{with_value, one_row, TakesValue}
use Rattle.chunk_block.specs.Pieces.{OfPiece, InRow, change_piece}
use Rattle.chunk_block.specs.Blocks.{BlockState, LoanState}
use Rattle.chunk_block.proofs.Loans.{of_piece}
use Rattle.block_laws.specs.Lending.{given_back, lent_pieces}
use Rattle.block_laws.proofs.Written.{with_row, one_row_back}
use Rattle.block_laws.proofs.writes.field_set.Goals as goal

pub field_set-requires : goal.field_set-requires
field_set-requires c =
    let b = c.args.block.now in
    let ts = c.args.types.now in
    subst (λ (l : LoanState). OfPiece c.args.ty.0 (InRow c.args.row (TakesValue c.args.field c.args.value)) l.pieces) (sym c.lend-loan.ensures.loan)
    (with_row ts b c.args.ty.0 c.args.row (TakesValue c.args.field c.args.value) c.requires.among c.requires.there c.requires.within)

pub give_back-requires : goal.give_back-requires
give_back-requires c = c.field_set.ensures.of c.lend-loan.new.self c.lend-loan.ensures.own

pub returns : goal.returns
returns c =
    let b = c.args.block.now in
    let ts = c.args.types.now in
    let loan = c.field_set.new.self in
    let pieces = ap (λ (l : LoanState). l.pieces) c.field_set.ensures.loan ∙ ap (λ (l : LoanState). change_piece c.args.ty.0 (one_row c.args.row (with_value c.args.field c.args.value)) l.pieces) c.lend-loan.ensures.loan in
    c.give_back.ensures.block
    ∙ (ap (λ (x : BlockState). given_back x loan) c.lend-loan.ensures.block
    ∙ one_row_back ts b loan c.args.ty.0 c.args.row (with_value c.args.field c.args.value) c.types.ensures.distinct c.types.ensures.cells c.requires.held c.requires.within
    (of_piece c.args.ty.0 (λ x. (c.args.row < length x.cells) × (TakesValue c.args.field c.args.value) x.shape) (λ x. c.args.row < length x.cells) (lent_pieces ts b) (λ x h. h.0) (with_row ts b c.args.ty.0 c.args.row (TakesValue c.args.field c.args.value) c.requires.among c.requires.there c.requires.within)) pieces)
