use Rattle.std.proofs.Common.{◌∙◌, subst, ap, arith, rules}
use Rattle.std.specs.List.{flat_map}
use Rattle.std.proofs.lemmas.Result.{IfOk-weaker}
use Rattle.std.proofs.lemmas.List.Sorted.{IsNonDecreasingBy-from_sort_by_key}
use Rattle.world_model.specs.Members.{In}
use Rattle.archetype_store.specs.Stores.{registry_of}
use Rattle.query_select.specs.declared.visits.Candidate.{Candidate}
use Rattle.query_select.specs.Entries.{entry_of}
use Rattle.query_select.specs.Visits.{IsWholeOf, visits_at}
use Rattle.query_select.proofs.Grouped.{counted}
use Rattle.query_select.proofs.Selected.{candidate_there, sorted_in_order, visits_in_order}
use Rattle.query_select.proofs.visits.visits_among.Goals as goal

pub returns-in_err-found-clause-steps : goal.returns-in_err-found-clause-steps
returns-in_err-found-clause-steps g c =
    let is = counted c.args.store.now.blocks c.args.matching.now c.requires.rising in
    let taken = c.candidates.ensures.steps in
    omega (arith, is, taken)

pub visits_of-requires : goal.visits_of-requires
visits_of-requires g c = λ k i.
    let s = c.args.store.now in
    let sorted = sorted_in_order s c.is_sound.ensures c.args.filter.now c.args.last.0 c.args.matching.now c.requires.rising c.in_ok-found.found.items c.sort_unstable_by_key.new.self.items
    c.in_ok-found.ensures.ok c.sort_unstable_by_key.ensures.permutation
    (IsNonDecreasingBy-from_sort_by_key (λ (p : Candidate). p.rank) _ c.sort_unstable_by_key.ensures.sorted (λ a r q called. search rules)) in
    candidate_there s c.is_sound.ensures c.args.filter.now c.args.last.0 c.args.matching.now c.requires.rising (IsWholeOf (registry_of s)) c.requires.whole k
    (subst (In k) (c.deref.ensures.value ∙ sorted) i)

pub returns-clause-ok : goal.returns-clause-ok
returns-clause-ok g c =
    let s = c.args.store.now in
    let entry = entry_of c.args.query.now c.args.filter.now in
    let sorted = sorted_in_order s c.is_sound.ensures c.args.filter.now c.args.last.0 c.args.matching.now c.requires.rising c.in_ok-found.found.items c.sort_unstable_by_key.new.self.items
    c.in_ok-found.ensures.ok c.sort_unstable_by_key.ensures.permutation
    (IsNonDecreasingBy-from_sort_by_key (λ (p : Candidate). p.rank) _ c.sort_unstable_by_key.ensures.sorted (λ a r q called. search rules)) in
    IfOk-weaker c.visits_of.result _ _
    (λ visits are. are c.args.filter.now ∙ ap (flat_map (λ (k : Candidate). visits_at s entry k.number)) (c.deref.ensures.value ∙ sorted)
    ∙ visits_in_order s c.is_sound.ensures c.args.filter.now c.args.last.0 c.args.matching.now c.requires.rising entry) c.visits_of.ensures

pub returns-clause-steps : goal.returns-clause-steps
returns-clause-steps g c =
    let is = counted c.args.store.now.blocks c.args.matching.now c.requires.rising in
    let taken = c.candidates.ensures.steps in
    omega (arith, is, taken)
