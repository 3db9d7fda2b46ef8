use Rattle.std.proofs.Common.{true, false, sym, ◌∙◌}
use Rattle.ent_types.proofs.DistinctNames.{are_distinct-drop}
use Rattle.ent_types.proofs.type_info.are_distinct.Goals as goal

pub returns-then-has_name : goal.returns-then-has_name
returns-then-has_name c =
    sym
    (c.loop-i.invariant ∙ are_distinct-drop c.args.fields.now c.loop-i.i c.index-fields-i.result true c.loop-i-test.true c.index-fields-i.is c.if-has_name.ensures)

pub loop-i-preserved : goal.loop-i-preserved
loop-i-preserved c =
    c.loop-i.invariant ∙ are_distinct-drop c.args.fields.now c.loop-i.i c.index-fields-i.result false c.loop-i-test.true c.index-fields-i.is c.if-has_name.ensures
