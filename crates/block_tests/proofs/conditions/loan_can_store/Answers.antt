use Rattle.std.proofs.Common.{◌≡◌, ◌<◌, ◌∙◌, subst}
use Rattle.block_columns.specs.Types.{TakesNumbers}
use Rattle.chunk_block.specs.Pieces.{OfRows}
use Rattle.chunk_block.proofs.Loans.{of_piece}
use Rattle.block_tests.proofs.conditions.loan_can_store.Goals as goal

pub returns-then-count-len : goal.returns-then-count-len
returns-then-count-len c = λ yes.
    of_piece c.args.ty.0 (λ t. c.in-Some.rows.now ≡ t) (OfRows c.args.count (TakesNumbers c.args.field)) c.args.loan.now.pieces
    (λ y is. subst (OfRows c.args.count (TakesNumbers c.args.field)) is (c.if-count-len.true ∙ c.len.ensures.value, subst (TakesNumbers c.args.field) c.shape.ensures (c.takes_numbers.ensures yes))) c.in-Some.ensures
