use Rattle.std.proofs.Common.{◌≡◌, ℕ, ◌+◌, ◌≤◌, ◌++◌, drop, take, sum_by, length}
use Rattle.std.specs.List.{flat_map}
use Rattle.archetype_store.specs.Stores.{numbers_in}
use Rattle.query_select.specs.Visits.{candidates_at}
use Rattle.query_select.proofs.visits.candidates.Given as goal

-- the blocks so far, and those that are left
abbrev pub invariant-loop-a : goal.invariant-loop-a
invariant-loop-a g l = record {
  found : l.found.items ++ flat_map (λ (a : ℕ). flat_map (candidates_at l.store l.filter l.last.0) (numbers_in a l.store.blocks)) (drop l.a-index l.matching)
      ≡ flat_map (λ (a : ℕ). flat_map (candidates_at l.store l.filter l.last.0) (numbers_in a l.store.blocks)) l.matching;
  steps : l.steps ≤ l.initial.steps + (l.a-index + sum_by (λ (a : ℕ). length (numbers_in a l.store.blocks)) (take l.a-index l.matching));
}
