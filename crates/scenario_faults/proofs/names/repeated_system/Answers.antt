use Rattle.std.proofs.Common.{◌||◌, ◌++◌, map, true, false, Bool, sym, ap, ◌∙◌, take}
use Rattle.std.specs.List.{list_any}
use Rattle.ent_types.specs.Types.{same_name}
use Rattle.scenario_record.specs.declared.record.GroupEntry.{GroupEntry}
use Rattle.scenario_record.specs.declared.record.SystemEntry.{SystemEntry}
use Rattle.scenario_faults.specs.Checks.{root_groups}
use Rattle.scenario_faults.proofs.NameLemmas.{repeated_step, known_any}
use Rattle.scenario_faults.proofs.names.repeated_system.Goals as goal

pub returns-then-is_taken : goal.returns-then-is_taken
returns-then-is_taken c =
    let known = root_groups ++ map (λ (g : GroupEntry). g.name) c.args.groups.now in
    let n = c.index-systems-i.result.name in
    let past : Bool = list_any (λ (y : SystemEntry). same_name n y.name) (take c.loop-i.i c.args.systems.now) in
    sym (repeated_step (λ (y : SystemEntry). y.name) known c.args.systems.now c.loop-i.i c.index-systems-i.result true c.loop-i-test.true c.index-systems-i.is
    (c.if-is_taken.ensures ∙ ap (λ (b : Bool). b || past) (sym (known_any (same_name n) c.args.groups.now))))
    ∙ c.loop-i.invariant

pub loop-i-preserved : goal.loop-i-preserved
loop-i-preserved c =
    let known = root_groups ++ map (λ (g : GroupEntry). g.name) c.args.groups.now in
    let n = c.index-systems-i.result.name in
    let past : Bool = list_any (λ (y : SystemEntry). same_name n y.name) (take c.loop-i.i c.args.systems.now) in
    sym (repeated_step (λ (y : SystemEntry). y.name) known c.args.systems.now c.loop-i.i c.index-systems-i.result false c.loop-i-test.true c.index-systems-i.is
    (c.if-is_taken.ensures ∙ ap (λ (b : Bool). b || past) (sym (known_any (same_name n) c.args.groups.now))))
    ∙ c.loop-i.invariant
