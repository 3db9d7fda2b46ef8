use Rattle.ent_types.specs.declared.kinds.FieldKind.TheVariants.{I32, I64}
use Rattle.block_columns.proofs.Stored.{numbers_stored}
use Rattle.block_columns.proofs.cells.Cells.store.Goals as goal

pub returns-in-I32-clause-values : goal.returns-in-I32-clause-values
returns-in-I32-clause-values c = rw c.in-I32.is (numbers_stored I32 c.args.rows.now c.args.numbers.now c.in-I32.column.items _ tt c.store_narrow.ensures.items)

pub returns-in-I64-clause-values : goal.returns-in-I64-clause-values
returns-in-I64-clause-values c = rw c.in-I64.is (numbers_stored I64 c.args.rows.now c.args.numbers.now c.in-I64.column.items _ tt c.store_wide.ensures.items)
