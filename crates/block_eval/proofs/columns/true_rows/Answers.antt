use Rattle.std.proofs.Common.{◌≡◌, ◌<◌, arith, rules}
use Rattle.expr_eval.specs.Values.{is_true}
use Rattle.block_columns.specs.Columns.{number_at}
use Rattle.block_eval.proofs.Rows.{one_more}
use Rattle.block_eval.proofs.columns.true_rows.Goals as goal

pub loop-i-preserved : goal.loop-i-preserved
loop-i-preserved c =
    let below : c.loop-i.i < 128 = omega (arith, c.requires, c.loop-i-test.true) in
    let truth : c.is_true.result ≡ is_true (number_at c.loop-i.i c.args.numbers.now) = search (rules, c.is_true.ensures) in
    one_more c.args.numbers.now c.loop-i.rows c.set.new.self c.loop-i.i c.is_true.result below c.set.ensures truth c.loop-i.invariant
