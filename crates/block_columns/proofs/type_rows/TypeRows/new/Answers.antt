use Rattle.std.proofs.Common.{refl, arith}
use Rattle.block_columns.proofs.Rows.{of_new, rows_new}
use Rattle.block_columns.proofs.type_rows.TypeRows.new.Goals as goal

pub invariant_of-result : goal.invariant_of-result
invariant_of-result c =
    rw (c.empty.ensures, c.in_ok-fields.ensures) (record {
      few = omega arith;
      most = c.requires.most;
      fields_of_type = of_new c.args.capacity c.args.shape;
      have_rows = rows_new c.args.capacity c.args.shape;
      past = λ k past. refl;
      bits = λ never k. refl;
    })
