use Rattle.std.proofs.Common.{◌≡◌, ◌+◌, ◌++◌, drop}
use Rattle.std.specs.List.{flat_map}
use Rattle.query_select.specs.Visits.{candidates_at}
use Rattle.query_select.proofs.visits.add_candidates.Given as goal

-- the blocks so far, and those that are left
abbrev pub invariant-loop-number : goal.invariant-loop-number
invariant-loop-number g l = record {
  found : l.found.items ++ flat_map (candidates_at l.store l.filter l.last.0) (drop l.number-index l.number-items)
      ≡ l.initial.found.items ++ flat_map (candidates_at l.store l.filter l.last.0) l.number-items;
  steps : l.steps ≡ l.initial.steps + l.number-index;
}
