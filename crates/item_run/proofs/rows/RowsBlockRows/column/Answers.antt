use Rattle.item_run.proofs.Held.{column_shown, column_there, column_values}
use Rattle.item_run.proofs.rows.RowsBlockRows.column.Goals as goal

pub unreachable-requires : goal.unreachable-requires
unreachable-requires c = column_shown c.self.invariant c.args.self.now c.self.view_is c.args.ty c.args.field c.requires.has c.requires.column c.in-None.ensures

pub column-requires : goal.column-requires
column-requires c = column_there c.self.invariant c.args.self.now c.self.view_is c.args.ty c.args.field c.requires.has c.requires.column c.in-Some.cells.now c.in-Some.ensures

pub returns : goal.returns
returns c = column_values c.self.invariant c.args.self.now c.self.view_is c.args.ty c.args.field c.requires.has c.requires.column c.in-Some.cells.now _ c.in-Some.ensures c.column.ensures
