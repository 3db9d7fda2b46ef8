use Rattle.std.proofs.Common.{subst}
use Rattle.block_columns.specs.Types.{TakesNumbers}
use Rattle.chunk_block.proofs.Known.{of_shape}
use Rattle.block_tests.proofs.conditions.can_store.Goals as goal

pub returns-in-Some : goal.returns-in-Some
returns-in-Some c = λ yes.
    of_shape c.args.ty.0 c.in-Some.rows.now.shape (TakesNumbers c.args.field) c.args.block.now.columns c.in-Some.ensures.shape (subst (TakesNumbers c.args.field) c.shape.ensures (c.takes_numbers.ensures yes))
