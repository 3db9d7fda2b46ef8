use Rattle.std.proofs.Common.{◌≡◌, ◌++◌, take, drop, map}
use Rattle.archetype_store.specs.Homes.{homes_of}
use Rattle.archetype_store.specs.Gaps.{reranked}
use Rattle.archetype_store.proofs.gaps.rerank_homes.Given as goal

-- the first homes have their new ranks
abbrev pub invariant-loop-h : goal.invariant-loop-h
invariant-loop-h l = homes_of l.homes.items ≡ map (reranked l.slots l.order) (take l.h (homes_of l.initial.homes.items)) ++ drop l.h (homes_of l.initial.homes.items)
