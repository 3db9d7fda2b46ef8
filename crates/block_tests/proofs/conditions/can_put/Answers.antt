use Rattle.std.proofs.Common.{subst}
use Rattle.block_columns.specs.Types.{TakesElements}
use Rattle.chunk_block.proofs.Known.{of_shape}
use Rattle.block_tests.proofs.conditions.can_put.Goals as goal

pub returns-in-Some : goal.returns-in-Some
returns-in-Some c = λ yes.
    of_shape c.args.ty.0 c.in-Some.rows.now.shape (TakesElements c.args.new.now) c.args.block.now.columns c.in-Some.ensures.shape (subst (TakesElements c.args.new.now) c.shape.ensures (c.takes_elements.ensures yes))
