use Rattle.std.proofs.Common.{◌∙◌}
use Rattle.item_run.proofs.Held.{column_shown, column_there, column_value, row_within}
use Rattle.item_run.proofs.rows.Rows.value.Goals as goal

pub unreachable-requires : goal.unreachable-requires
unreachable-requires c = column_shown c.self.invariant c.args.self.now c.self.view_is c.args.ty c.args.field c.requires.has c.requires.column c.in-None.ensures

pub get-requires-clause-within : goal.get-requires-clause-within
get-requires-clause-within c = row_within c.self.invariant c.args.self.now c.self.view_is c.args.ty c.args.field c.requires.has c.requires.column c.in-Some.cells.now c.in-Some.ensures c.args.place c.requires.within

pub get-requires-clause-there : goal.get-requires-clause-there
get-requires-clause-there c = column_there c.self.invariant c.args.self.now c.self.view_is c.args.ty c.args.field c.requires.has c.requires.column c.in-Some.cells.now c.in-Some.ensures

pub returns : goal.returns
returns c = c.get.ensures ∙ column_value c.self.invariant c.args.self.now c.self.view_is c.args.ty c.args.field c.requires.has c.requires.column c.in-Some.cells.now c.in-Some.ensures c.args.place c.requires.within
