use Rattle.std.proofs.Common.{true, false, sym, ◌∙◌}
use Rattle.scenario_faults.proofs.NameLemmas.{stray_step}
use Rattle.scenario_faults.proofs.names.stray.Goals as goal

pub returns-then-not-is_known : goal.returns-then-not-is_known
returns-then-not-is_known c =
    sym (stray_step c.args.groups.now c.args.systems.now c.loop-i.i c.index-systems-i.result false c.loop-i-test.true c.index-systems-i.is c.if-not-is_known.ensures)
    ∙ c.loop-i.invariant

pub loop-i-preserved : goal.loop-i-preserved
loop-i-preserved c =
    sym (stray_step c.args.groups.now c.args.systems.now c.loop-i.i c.index-systems-i.result true c.loop-i-test.true c.index-systems-i.is c.if-not-is_known.ensures)
    ∙ c.loop-i.invariant
