use Rattle.std.proofs.Common.{true, false, sym, ◌∙◌}
use Rattle.scenario_record.specs.declared.record.GroupEntry.{GroupEntry}
use Rattle.scenario_faults.specs.Checks.{root_groups}
use Rattle.scenario_faults.proofs.NameLemmas.{repeated_step}
use Rattle.scenario_faults.proofs.names.repeated_group.Goals as goal

pub returns-then-is_known : goal.returns-then-is_known
returns-then-is_known c =
    sym (repeated_step (λ (g : GroupEntry). g.name) root_groups c.args.groups.now c.loop-i.i c.index-groups-i.result true c.loop-i-test.true c.index-groups-i.is c.if-is_known.ensures)
    ∙ c.loop-i.invariant

pub loop-i-preserved : goal.loop-i-preserved
loop-i-preserved c =
    sym (repeated_step (λ (g : GroupEntry). g.name) root_groups c.args.groups.now c.loop-i.i c.index-groups-i.result false c.loop-i-test.true c.index-groups-i.is c.if-is_known.ensures)
    ∙ c.loop-i.invariant
