use Rattle.std.proofs.Common.{ℕ, ◌≡◌, ◌<◌, ◌∙◌, ◌++◌, List, length, filter, sym, subst, ap, ap₂, arith}
use Rattle.std.specs.List.{range_with_len}
use Rattle.archetype_store.specs.Stores.{types_at}
use Rattle.run_model.specs.Query.{passes}
use Rattle.world_model.specs.Members.{In, IsRising}
use Rattle.query_select.specs.Caches.{CacheState}
use Rattle.query_select.specs.Entries.{unfiltered}
use Rattle.query_select.proofs.Archetypes.{left, matching_whole, matching_rising, matching_below}
use Rattle.query_select.proofs.cache.Cache.update.Goals as goal

pub invariant_of-self : goal.invariant_of-self
invariant_of-self g c = subst (λ (items : List ℕ). IsRising items × ((a : ℕ) → In a items → a < c.self.inside.seen)) (sym c.in_err-reserve.ensures.items) c.self.invariant

pub invariant_of-self-2 : goal.invariant_of-self-2
invariant_of-self-2 g c =
    let archetypes = c.args.store.now.archetypes in
    let p = λ (a : ℕ). passes c.args.registry.now (unfiltered c.args.query.now) (types_at archetypes a) in
    let seen : c.self.inside.seen ≡ c.args.self.now.seen = ap (λ (v : CacheState). v.seen) c.self.view_is in
    let before : c.reserve.new.self.items ≡ filter p (range_with_len 0 c.self.inside.seen) =
    c.in_ok-reserve.ensures.items ∙ ap (λ (v : CacheState). v.matching) (c.self.view_is ∙ c.requires.is) ∙ ap (λ n. filter p (range_with_len 0 n)) (sym seen) in
    let after : c.add_matching.new.matching.items ≡ filter p (range_with_len 0 (length archetypes)) =
    c.add_matching.ensures.matching ∙ ap (λ items. items ++ left p (length archetypes) c.self.inside.seen) before
    ∙ matching_whole p c.self.inside.seen (length archetypes) (omega (arith, seen, c.requires.within)) in (
      subst IsRising (sym after) (matching_rising p (length archetypes)),
      λ a i. let below = matching_below p (length archetypes) a (subst (In a) after i) in omega (arith, below, c.archetypes-made.ensures),
    )

pub returns-clause-ok : goal.returns-clause-ok
returns-clause-ok g c =
    let archetypes = c.args.store.now.archetypes in
    let p = λ (a : ℕ). passes c.args.registry.now (unfiltered c.args.query.now) (types_at archetypes a) in
    let seen : c.self.inside.seen ≡ c.args.self.now.seen = ap (λ (v : CacheState). v.seen) c.self.view_is in
    let before : c.reserve.new.self.items ≡ filter p (range_with_len 0 c.self.inside.seen) =
    c.in_ok-reserve.ensures.items ∙ ap (λ (v : CacheState). v.matching) (c.self.view_is ∙ c.requires.is) ∙ ap (λ n. filter p (range_with_len 0 n)) (sym seen) in
    let after : c.add_matching.new.matching.items ≡ filter p (range_with_len 0 (length archetypes)) =
    c.add_matching.ensures.matching ∙ ap (λ items. items ++ left p (length archetypes) c.self.inside.seen) before
    ∙ matching_whole p c.self.inside.seen (length archetypes) (omega (arith, seen, c.requires.within)) in
    ap₂ (λ (m : List ℕ) (s : ℕ). let v : CacheState = record { matching = m; seen = s } in v) after c.archetypes-made.ensures
