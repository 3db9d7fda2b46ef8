use Rattle.std.proofs.Common.{◌≡◌, ◌+◌, ◌-◌, ◌≤◌, ◌++◌, length, vec_capacity}
use Rattle.archetype_store.specs.Stores.{types_at}
use Rattle.run_model.specs.Query.{passes}
use Rattle.query_select.specs.Entries.{unfiltered}
use Rattle.query_select.proofs.Archetypes.{left}
use Rattle.query_select.proofs.cache.add_matching.Given as goal

-- the archetypes so far, and those that are left
abbrev pub invariant-loop-k : goal.invariant-loop-k
invariant-loop-k g l = record {
  matching : l.matching.items ++ left (λ a. passes l.registry (unfiltered l.query) (types_at l.store.archetypes a)) (length l.store.archetypes) l.k
      ≡ l.initial.matching.items ++ left (λ a. passes l.registry (unfiltered l.query) (types_at l.store.archetypes a)) (length l.store.archetypes) l.seen;
  room : length l.matching.items + (length l.store.archetypes - l.k) ≤ vec_capacity l.matching;
  steps : l.steps + (length l.store.archetypes - l.k) ≡ l.initial.steps + (length l.store.archetypes - l.seen);
}
