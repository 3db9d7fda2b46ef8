use Rattle.std.proofs.Common.{position, length, ap, sym, ◌∙◌, arith}
use Rattle.ent_types.specs.Types.{same_name}
use Rattle.run_model.specs.Steps.{root_names}
use Rattle.scenario_check.proofs.ChildLemmas.{below, number_is, root_is, group_is, default_is, none_before}
use Rattle.scenario_check.proofs.children.group_number.Goals as goal

pub returns-in-Some : goal.returns-in-Some
returns-in-Some c =
    let s = c.args.scenario.now in
    let keys = c.args.names.now.keys in
    let name = c.args.name.now in
    root_is c.in-Some.number (position (same_name name) root_names) (below (length s.group) (position (same_name name) keys)) c.in-Some.ensures
    ∙ number_is s keys name c.requires.names

pub returns-then-place-len : goal.returns-then-place-len
returns-then-place-len c =
    let s = c.args.scenario.now in
    let keys = c.args.names.now.keys in
    let name = c.args.name.now in
    let found = sym c.in-Some-get_index_of.is ∙ c.get_index_of.ensures.index in
    group_is c.in-Some-get_index_of.place (length s.group) (position (same_name name) root_names) (position (same_name name) keys) c.in_default.ensures found (omega (arith, c.if-place-len.true, c.len.ensures))
    ∙ number_is s keys name c.requires.names

pub returns-else-place-len : goal.returns-else-place-len
returns-else-place-len c =
    let s = c.args.scenario.now in
    let keys = c.args.names.now.keys in
    let name = c.args.name.now in
    let found = sym c.in-Some-get_index_of.is ∙ c.get_index_of.ensures.index in
    default_is (length s.group) (position (same_name name) root_names) (position (same_name name) keys) c.in_default.ensures
    (none_before c.in-Some-get_index_of.place (length s.group) (position (same_name name) keys) found (omega (arith, c.if-place-len.false, c.len.ensures)))
    ∙ number_is s keys name c.requires.names

pub returns-in-None : goal.returns-in-None
returns-in-None c =
    let s = c.args.scenario.now in
    let keys = c.args.names.now.keys in
    let name = c.args.name.now in
    let none = sym c.in-None.is ∙ c.get_index_of.ensures.index in
    default_is (length s.group) (position (same_name name) root_names) (position (same_name name) keys) c.in_default.ensures (ap (below (length s.group)) (sym none))
    ∙ number_is s keys name c.requires.names
