use Rattle.std.proofs.Common.{◌≡◌, ◌<◌, ◌∙◌, sym, ap, subst, length}
use Rattle.std.proofs.lemmas.List.{get_or-map}
use Rattle.world_model.specs.Row.{Row}
use Rattle.buffer_store.specs.Buffers.{buffer}
use Rattle.block_columns.specs.Types.{Content, blank_cell, cell_in, with_values, one_row, TakesElements}
use Rattle.chunk_block.specs.Pieces.{OfPiece, InRow, change_piece}
use Rattle.chunk_block.specs.Blocks.{BlockState, LoanState, OfType, content_at, no_row}
use Rattle.chunk_block.proofs.Loans.{of_piece}
use Rattle.block_laws.specs.Lending.{given_back, lent_pieces}
use Rattle.block_laws.proofs.Written.{with_row, one_row_back, read_back}
use Rattle.block_laws.proofs.writes.put_elements.Goals as goal

pub put_elements-old-requires : goal.put_elements-old-requires
put_elements-old-requires c =
    let b = c.args.block.now in
    let ts = c.args.types.now in
    subst (λ (l : LoanState). OfPiece c.args.ty.0 (InRow c.args.row (TakesElements c.args.new)) l.pieces) (sym c.lend-loan.ensures.loan)
    (with_row ts b c.args.ty.0 c.args.row (TakesElements c.args.new) c.requires.among c.requires.there c.requires.within)

pub give_back-requires : goal.give_back-requires
give_back-requires c = c.put_elements-old.ensures.of c.lend-loan.new.self c.lend-loan.ensures.own

pub returns-clause-new : goal.returns-clause-new
returns-clause-new c =
    let b = c.args.block.now in
    let ts = c.args.types.now in
    let loan = c.put_elements-old.new.self in
    let pieces = ap (λ (l : LoanState). l.pieces) c.put_elements-old.ensures.new ∙ ap (λ (l : LoanState). change_piece c.args.ty.0 (one_row c.args.row (with_values c.args.new.values)) l.pieces) c.lend-loan.ensures.loan in
    c.give_back.ensures.block
    ∙ (ap (λ (x : BlockState). given_back x loan) c.lend-loan.ensures.block
    ∙ one_row_back ts b loan c.args.ty.0 c.args.row (with_values c.args.new.values) c.types.ensures.distinct c.types.ensures.cells c.requires.held c.requires.within
    (of_piece c.args.ty.0 (λ x. (c.args.row < length x.cells) × (TakesElements c.args.new) x.shape) (λ x. c.args.row < length x.cells) (lent_pieces ts b) (λ x h. h.0) (with_row ts b c.args.ty.0 c.args.row (TakesElements c.args.new) c.requires.among c.requires.there c.requires.within)) pieces)

pub returns-clause-old : goal.returns-clause-old
returns-clause-old c =
    let b = c.args.block.now in
    let ts = c.args.types.now in
    let t = c.args.ty.0 in
    let row = c.args.row in
    let old = c.put_elements-old.result in
    subst (λ (x : Content). OfType t (λ s. old ≡ buffer (length s.kinds) x.values) b.columns)
    (get_or-map (λ (r : Row). content_at t r.cells) b.rows row no_row blank_cell c.requires.within)
    (read_back ts b.capacity b.rows t (TakesElements c.args.new) (λ s cs. old ≡ buffer (length s.kinds) (cell_in row cs).values) b.columns c.requires.among c.requires.there
    (subst (λ (l : LoanState). OfPiece t (λ x. old ≡ buffer (length x.shape.kinds) (cell_in row x.cells).values) l.pieces) c.lend-loan.ensures.loan c.put_elements-old.ensures.old))
