use Rattle.std.proofs.Common.{◌≡◌, ◌∙◌, ◌++◌, List, true, false, refl, sym, ap, subst, append-nil}
use Rattle.std.specs.Prelude.{⊤}
use Rattle.archetype_store.specs.Stores.{OfNumber, rank_of}
use Rattle.world_places.proofs.Numbers.{of_more}
use Rattle.query_select.specs.declared.visits.Candidate.{Candidate}
use Rattle.query_select.specs.Filters.{CanFilter, passes_filter}
use Rattle.query_select.proofs.Visited.{candidate_is}
use Rattle.query_select.proofs.visits.add_candidate.Goals as goal

pub returns-then-not-passes : goal.returns-then-not-passes
returns-then-not-passes c =
    let s = c.args.store.now in
    sym (append-nil c.args.found.now.items)
    ∙ ap (λ (cs : List Candidate). c.args.found.now.items ++ cs)
    (candidate_is s c.args.filter.now c.args.last.0 c.args.number (rank_of c.args.number s.blocks s.ranks) false
    (subst (λ r. OfNumber c.args.number (λ b. r ≡ passes_filter c.args.filter.now c.args.last.0 b) s.blocks) c.if-not-passes.true c.passes.ensures) refl)

pub rank-rank-requires : goal.rank-rank-requires
rank-rank-requires c = of_more c.args.number (CanFilter c.args.filter.now) (λ b. ⊤) c.args.store.now.blocks (λ b h. tt) c.requires

pub returns : goal.returns
returns c =
    let s = c.args.store.now in
    c.in_ok-push.ensures.items
    ∙ ap (λ (cs : List Candidate). c.args.found.now.items ++ cs)
    (candidate_is s c.args.filter.now c.args.last.0 c.args.number c.rank-rank.result true
    (subst (λ r. OfNumber c.args.number (λ b. r ≡ passes_filter c.args.filter.now c.args.last.0 b) s.blocks) c.if-not-passes.false c.passes.ensures) c.rank-rank.ensures)
