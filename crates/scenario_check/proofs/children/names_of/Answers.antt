use Rattle.scenario_check.proofs.ChildLemmas.{names_are}
use Rattle.scenario_check.proofs.children.names_of.Goals as goal

pub returns : goal.returns
returns c =
    names_are c.args.scenario.now c.new-names.result.keys c.add_groups.new.names.keys c.add_systems.new.names.keys c.as_slice.result.now c.as_slice-2.result.now
    c.requires c.new-names.ensures.empty c.as_slice.ensures c.as_slice-2.ensures c.in_ok-add_groups.ensures c.in_ok-add_systems.ensures
