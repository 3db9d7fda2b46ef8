use Rattle.std.proofs.Common.{◌∙◌, sym, subst, take, ap}
use Rattle.world_model.specs.Members.{In, IsRising}
use Rattle.query_select.specs.Caches.{CacheState}
use Rattle.query_select.proofs.Archetypes.{take_rising}
use Rattle.query_select.proofs.cache.Cache.go_back.Goals as goal

pub invariant_of-self : goal.invariant_of-self
invariant_of-self c = (
  subst IsRising (sym c.truncate.ensures.items) (take_rising c.args.matching c.self.inside.matching.items c.self.invariant.0),
  λ a i. c.requires a (subst (In a) (c.truncate.ensures.items ∙ ap (λ (v : CacheState). take c.args.matching v.matching) c.self.view_is) i),
)
