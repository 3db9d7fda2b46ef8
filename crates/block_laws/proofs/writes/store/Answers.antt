use Rattle.std.proofs.Common.{◌≡◌, ◌∙◌, sym, ap, subst, length}
use Rattle.block_columns.specs.Types.{TakesNumbers}
use Rattle.chunk_block.specs.Pieces.{OfPiece, OfRows, stored_numbers, change_piece}
use Rattle.chunk_block.specs.Blocks.{BlockState, LoanState}
use Rattle.chunk_block.proofs.Loans.{of_piece, lent_there}
use Rattle.block_laws.specs.Lending.{given_back, lent_pieces}
use Rattle.block_laws.proofs.Written.{numbers_back}
use Rattle.block_laws.proofs.writes.store.Goals as goal

pub store-requires : goal.store-requires
store-requires c =
    let b = c.args.block.now in
    let ts = c.args.types.now in
    subst (λ (l : LoanState). OfPiece c.args.ty.0 (OfRows (length c.args.numbers.now) (TakesNumbers c.args.field)) l.pieces) (sym c.lend-loan.ensures.loan)
    (of_piece c.args.ty.0 (λ x. (length b.rows ≡ length x.cells) × (TakesNumbers c.args.field) x.shape) (OfRows (length c.args.numbers.now) (TakesNumbers c.args.field)) (lent_pieces ts b) (λ x h. (c.requires.size ∙ h.0, h.1))
    (lent_there ts b.capacity b.rows c.args.ty.0 (TakesNumbers c.args.field) b.columns c.requires.among c.requires.there))

pub give_back-requires : goal.give_back-requires
give_back-requires c = c.store.ensures.of c.lend-loan.new.self c.lend-loan.ensures.own

pub returns : goal.returns
returns c =
    let b = c.args.block.now in
    let ts = c.args.types.now in
    let loan = c.store.new.self in
    let pieces = ap (λ (l : LoanState). l.pieces) c.store.ensures.loan ∙ ap (λ (l : LoanState). change_piece c.args.ty.0 (stored_numbers c.args.rows.now c.args.field c.args.numbers.now) l.pieces) c.lend-loan.ensures.loan in
    c.give_back.ensures.block
    ∙ (ap (λ (x : BlockState). given_back x loan) c.lend-loan.ensures.block
    ∙ numbers_back ts b loan c.args.ty.0 c.args.field c.args.rows.now c.args.numbers.now (TakesNumbers c.args.field) c.types.ensures.distinct c.types.ensures.cells c.requires.held c.requires.among c.requires.there pieces)
