use Rattle.std.proofs.Common.{ℕ, ◌<◌, subst}
use Rattle.world_model.specs.Members.{In}
use Rattle.query_select.specs.Caches.{CacheState}
use Rattle.query_select.proofs.cache.Cache.matching.Goals as goal

pub returns-clause-seen : goal.returns-clause-seen
returns-clause-seen c = subst (λ (v : CacheState). (a : ℕ) → In a v.matching → a < v.seen) c.self.view_is c.self.invariant.1
