use Rattle.std.proofs.Common.{pos, subst}
use Rattle.ent_types.specs.declared.value.Value.TheVariants.{Int}
use Rattle.block_columns.specs.Types.{TakesValue}
use Rattle.chunk_block.proofs.Known.{of_shape}
use Rattle.block_tests.proofs.conditions.can_set_five.Goals as goal

pub returns-in-Some : goal.returns-in-Some
returns-in-Some c = λ yes.
    of_shape c.args.ty.0 c.in-Some.rows.now.shape (TakesValue c.args.field (Int (pos 5))) c.args.block.now.columns c.in-Some.ensures.shape (subst (TakesValue c.args.field (Int (pos 5))) c.shape.ensures (c.takes_five.ensures yes))
