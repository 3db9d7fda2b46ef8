use Rattle.std.proofs.Common.{sym, arith}
use Rattle.block_columns.specs.Fields.{fields_of}
use Rattle.block_columns.proofs.Seen.{size}
use Rattle.block_columns.proofs.type_rows.TypeRows.len.Goals as goal

pub returns-clause-value : goal.returns-clause-value
returns-clause-value c =
    let l = c.self.inside in
    sym (size c.args.self.now l.shape l.capacity (fields_of l.fields) l.off l.rows c.self.view_is)

pub returns-clause-bound : goal.returns-clause-bound
returns-clause-bound c =
    let inv = c.self.invariant in
    omega (arith, inv.few, inv.most)
