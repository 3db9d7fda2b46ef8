use Rattle.std.proofs.Common.{◌≡◌, ◌++◌, drop}
use Rattle.std.specs.List.{flat_map}
use Rattle.query_select.specs.declared.filter.Filter.{Filter}
use Rattle.query_select.specs.declared.visits.Candidate.{Candidate}
use Rattle.query_select.specs.Entries.{entry_of}
use Rattle.query_select.specs.Visits.{visits_at}
use Rattle.query_select.proofs.visits.visits_of.Given as goal

-- the visits so far, and those that are left
abbrev pub invariant-loop-candidate : goal.invariant-loop-candidate
invariant-loop-candidate l =
    (filter : Filter) → l.visits.items ++ flat_map (λ (c : Candidate). visits_at l.store (entry_of l.query filter) c.number) (drop l.candidate-index l.candidates)
    ≡ flat_map (λ (c : Candidate). visits_at l.store (entry_of l.query filter) c.number) l.candidates
