use Rattle.std.proofs.Common.{◌≡◌, ◌<◌, ◌∙◌, subst}
use Rattle.block_columns.specs.Types.{IsEnableable}
use Rattle.chunk_block.specs.Pieces.{InRow}
use Rattle.chunk_block.proofs.Loans.{of_piece}
use Rattle.block_tests.proofs.conditions.loan_can_switch.Goals as goal

pub returns-then-row-len : goal.returns-then-row-len
returns-then-row-len c = λ yes.
    of_piece c.args.ty.0 (λ t. c.in-Some.rows.now ≡ t) (InRow c.args.row IsEnableable) c.args.loan.now.pieces
    (λ y is. subst (InRow c.args.row IsEnableable) is (subst (λ m. c.args.row < m) c.len.ensures.value c.if-row-len.true, subst IsEnableable c.shape.ensures (c.switches.ensures yes))) c.in-Some.ensures
