use Rattle.std.proofs.Common.{◌≡◌, ℕ, take, sum_by, length}
use Rattle.archetype_store.specs.Stores.{numbers_in}
use Rattle.query_select.proofs.cache.Cache.passing.Given as goal

-- the blocks of the archetypes so far
abbrev pub invariant-loop-a : goal.invariant-loop-a
invariant-loop-a l = l.count ≡ sum_by (λ (a : ℕ). length (numbers_in a l.store.blocks)) (take l.a-index l.a-items)
