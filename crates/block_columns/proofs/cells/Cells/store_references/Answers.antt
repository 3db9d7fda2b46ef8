use Rattle.block_columns.proofs.Stored.{references_stored}
use Rattle.block_columns.proofs.cells.Cells.store_references.Goals as goal

pub returns-in-Refs-clause-values : goal.returns-in-Refs-clause-values
returns-in-Refs-clause-values c = rw c.in-Refs.is (references_stored c.args.rows.now c.args.references.now c.in-Refs.column.items _ c.store_refs.ensures.items)
