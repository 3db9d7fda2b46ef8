use Rattle.std.proofs.Common.{◌≡◌, ◌∙◌, ap, ap₂, sym, subst, List, length, arith}
use Rattle.std.specs.Prelude.{⊤}
use Rattle.world_model.specs.Members.{In, tally}
use Rattle.world_model.specs.World.{Block}
use Rattle.run_model.specs.LawfulQuery.{IsLawfulFilter}
use Rattle.run_model.specs.Query.{passes}
use Rattle.structural_ops.specs.Numbered.{HasBlock, with_each}
use Rattle.structural_ops.specs.Worlds.{WorldState}
use Rattle.query_select.specs.declared.visits.Visit.{Visit}
use Rattle.query_select.specs.Entries.{entry_of, last_run, unfiltered}
use Rattle.phase_run.specs.After.{rows_ran, visit_marked}
use Rattle.phase_run.proofs.Chosen.{chosen_few}
use Rattle.phase_run.proofs.Finished.{chosen_before, finished, numbered_before, passing_are, visits_counted, visits_there}
use Rattle.phase_run.proofs.Prepared.{filter_lawful, passing_alike}
use Rattle.phase_run.proofs.system_run.run_system.Goals as goal

pub select_visits-requires-clause-filter : goal.select_visits-requires-clause-filter
select_visits-requires-clause-filter c =
    let q = c.args.query.now in
    subst (λ (y : WorldState). IsLawfulFilter y.world.registry (entry_of q.query q.filter)) (sym c.raise.ensures.world)
    (filter_lawful q.query q.filter c.args.system.now c.requires.query.entry c.args.world.world.registry c.requires.runs.filter)

pub overflow_cast-count : goal.overflow_cast-count
overflow_cast-count c =
    let w = c.args.world in
    let s = c.args.system.now in
    let q = c.args.query.now in
    let last = last_run c.args.last.0 in
    let vs = c.in_ok-visits.visits.items in
    let numbers = numbered_before w c.raise.new.self c.raise.ensures.world c.is_numbered.ensures in
    let are = chosen_before w c.raise.new.self c.raise.ensures.world s last vs (c.in_ok-visits.ensures.ok s c.requires.query.entry) in
    let count : c.len-count.result ≡ length vs = c.len-count.ensures ∙ (sym c.deref.ensures.len ∙ ap (λ (us : List Visit). length us) c.deref.ensures.value) in
    let chosen_count = ap (λ (us : List Visit). length us) are in
    let few = chosen_few w.world.registry s last w.numbers w.world.blocks numbers.each in
    let passing : c.passing-passing.result ≡ tally (λ (b : Block). passes w.world.registry s b.home.types) w.world.blocks =
    c.passing-passing.ensures (unfiltered q.query) c.in_ok-visits.ensures.cache
    ∙ (ap (λ (y : WorldState). tally (λ (b : Block). passes y.world.registry (unfiltered q.query) b.home.types) y.world.blocks) c.raise.ensures.world
    ∙ passing_alike q.query q.filter s c.requires.query.entry w.world.registry w.world.blocks) in
    let small = c.passing-passing.type_inv in
    omega (arith, count, chosen_count, few, passing, small)

pub run_visits-world-requires-clause-visits : goal.run_visits-world-requires-clause-visits
run_visits-world-requires-clause-visits c =
    record { last = last_run c.args.last.0; are = c.deref-2.ensures.value ∙ c.in_ok-visits.ensures.ok c.args.system.now c.requires.query.entry }

pub mark_visits-requires : goal.mark_visits-requires
mark_visits-requires c = λ v i.
    let w = c.args.world in
    let s = c.args.system.now in
    let last = last_run c.args.last.0 in
    let vs = c.in_ok-visits.visits.items in
    let visited = c.in_ok-visits.ensures.ok s c.requires.query.entry in
    let numbers = numbered_before w c.raise.new.self c.raise.ensures.world c.is_numbered.ensures in
    let are = chosen_before w c.raise.new.self c.raise.ensures.world s last vs visited in
    let ran = c.run_visits-world.ensures last (c.deref-2.ensures.value ∙ visited) ∙ ap (rows_ran s last c.args.frame) c.raise.ensures.world in
    subst (HasBlock v.block (λ _. ⊤)) (sym ran) (visits_there w s c.args.last.0 c.args.frame numbers vs are v (subst (In v) c.deref-3.ensures.value i))

pub returns-clause-world : goal.returns-clause-world
returns-clause-world c =
    let w = c.args.world in
    let s = c.args.system.now in
    let last = last_run c.args.last.0 in
    let vs = c.in_ok-visits.visits.items in
    let types = c.args.query.now.written in
    let visited = c.in_ok-visits.ensures.ok s c.requires.query.entry in
    let numbers = numbered_before w c.raise.new.self c.raise.ensures.world c.is_numbered.ensures in
    let are = chosen_before w c.raise.new.self c.raise.ensures.world s last vs visited in
    let ran = c.run_visits-world.ensures last (c.deref-2.ensures.value ∙ visited) ∙ ap (rows_ran s last c.args.frame) c.raise.ensures.world in
    c.mark_visits.ensures
    ∙ (ap₂ (λ (us : List Visit) (y : WorldState). with_each (visit_marked us y.world.moment types) y) c.deref-3.ensures.value ran
    ∙ finished w s c.args.last.0 c.args.frame numbers vs are types c.requires.query.written)

pub returns-clause-visits : goal.returns-clause-visits
returns-clause-visits c =
    let w = c.args.world in
    let s = c.args.system.now in
    let vs = c.in_ok-visits.visits.items in
    let numbers = numbered_before w c.raise.new.self c.raise.ensures.world c.is_numbered.ensures in
    let are = chosen_before w c.raise.new.self c.raise.ensures.world s (last_run c.args.last.0) vs (c.in_ok-visits.ensures.ok s c.requires.query.entry) in
    c.len-count.ensures
    ∙ (sym c.deref.ensures.len
    ∙ (ap (λ (us : List Visit). length us) c.deref.ensures.value ∙ visits_counted w s c.args.last.0 c.args.frame numbers vs are))

pub returns-clause-passing : goal.returns-clause-passing
returns-clause-passing c =
    let w = c.args.world in
    let s = c.args.system.now in
    let q = c.args.query.now in
    c.passing-passing.ensures (unfiltered q.query) c.in_ok-visits.ensures.cache
    ∙ (ap (λ (y : WorldState). tally (λ (b : Block). passes y.world.registry (unfiltered q.query) b.home.types) y.world.blocks) c.raise.ensures.world
    ∙ (passing_alike q.query q.filter s c.requires.query.entry w.world.registry w.world.blocks ∙ sym (passing_are w s c.args.last.0 c.args.frame)))
