use Rattle.std.proofs.Common.{true, false, sym, ◌∙◌}
use Rattle.scenario_faults.proofs.NameLemmas.{orphan_step}
use Rattle.scenario_faults.proofs.names.orphan.Goals as goal

pub returns-then-not-is_known : goal.returns-then-not-is_known
returns-then-not-is_known c =
    sym (orphan_step c.args.groups.now c.loop-i.i c.index-groups-i.result false c.loop-i-test.true c.index-groups-i.is c.if-not-is_known.ensures)
    ∙ c.loop-i.invariant

pub loop-i-preserved : goal.loop-i-preserved
loop-i-preserved c =
    sym (orphan_step c.args.groups.now c.loop-i.i c.index-groups-i.result true c.loop-i-test.true c.index-groups-i.is c.if-not-is_known.ensures)
    ∙ c.loop-i.invariant
