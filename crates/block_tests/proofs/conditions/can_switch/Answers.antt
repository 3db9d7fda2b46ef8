use Rattle.std.proofs.Common.{subst}
use Rattle.block_columns.specs.Types.{IsEnableable}
use Rattle.chunk_block.proofs.Known.{of_shape}
use Rattle.block_tests.proofs.conditions.can_switch.Goals as goal

pub returns-in-Some : goal.returns-in-Some
returns-in-Some c = λ yes.
    of_shape c.args.ty.0 c.in-Some.rows.now.shape IsEnableable c.args.block.now.columns c.in-Some.ensures.shape (subst IsEnableable c.shape.ensures (c.switches.ensures yes))
