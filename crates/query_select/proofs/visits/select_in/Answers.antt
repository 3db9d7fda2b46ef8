use Rattle.std.proofs.Common.{ℕ, ◌≡◌, ◌∙◌, List, length, take, sym, subst, ap, ap₂, arith}
use Rattle.std.specs.List.{flat_map}
use Rattle.world_model.specs.Members.{In, tally}
use Rattle.world_model.specs.World.{Block}
use Rattle.archetype_store.specs.Stores.{types_at}
use Rattle.world_places.specs.Placing.{world_blocks}
use Rattle.run_model.specs.Query.{passes}
use Rattle.query_select.specs.Caches.{CacheState, matching_among}
use Rattle.query_select.specs.Entries.{entry_of, unfiltered}
use Rattle.query_select.specs.Visits.{blocks_among, visits_if}
use Rattle.query_select.proofs.Archetypes.{first_kept, matching_below}
use Rattle.query_select.proofs.Numbered.{matching_count, numbered_are, passing_count}
use Rattle.query_select.proofs.Ready.{filterable, whole_of}
use Rattle.query_select.proofs.visits.select_in.Goals as goal

pub visits_among-requires-clause-there : goal.visits_among-requires-clause-there
visits_among-requires-clause-there g c = λ a i.
    let archetypes = c.args.store.now.archetypes in
    let is : c.matching-2.result.now ≡ matching_among c.args.registry.now (unfiltered c.args.query.now) archetypes (length archetypes) =
    c.matching-2.ensures.value ∙ ap (λ (v : CacheState). v.matching) c.in_ok-update.ensures.ok in
    matching_below (λ k. passes c.args.registry.now (unfiltered c.args.query.now) (types_at archetypes k)) (length archetypes) a (subst (In a) is i)

pub visits_among-requires-clause-ready : goal.visits_among-requires-clause-ready
visits_among-requires-clause-ready g c = λ a i.
    let archetypes = c.args.store.now.archetypes in
    let is : c.matching-2.result.now ≡ matching_among c.args.registry.now (unfiltered c.args.query.now) archetypes (length archetypes) =
    c.matching-2.ensures.value ∙ ap (λ (v : CacheState). v.matching) c.in_ok-update.ensures.ok in
    filterable c.args.registry.now c.args.query.now c.args.filter.now c.args.store.now c.is_sound.ensures c.requires.ready c.requires.filter (length archetypes) a (subst (In a) is i)

pub visits_among-requires-clause-whole : goal.visits_among-requires-clause-whole
visits_among-requires-clause-whole g c = whole_of c.args.registry.now c.args.store.now c.is_sound.ensures c.requires.ready

pub go_back-requires : goal.go_back-requires
go_back-requires g c = λ a i.
    let archetypes = c.args.store.now.archetypes in
    let seen = c.args.cache.now.seen in
    let p = λ (k : ℕ). passes c.args.registry.now (unfiltered c.args.query.now) (types_at archetypes k) in
    let before : c.matching.result.now ≡ matching_among c.args.registry.now (unfiltered c.args.query.now) archetypes seen =
    c.matching.ensures.value ∙ ap (λ (v : CacheState). v.matching) c.requires.cache.is in
    let after : c.update.new.self.matching ≡ matching_among c.args.registry.now (unfiltered c.args.query.now) archetypes (length archetypes) =
    ap (λ (v : CacheState). v.matching) c.in_ok-update.ensures.ok in
    let kept : take (length c.matching.result.now) c.update.new.self.matching ≡ matching_among c.args.registry.now (unfiltered c.args.query.now) archetypes seen =
    ap₂ (λ (b e : List ℕ). take (length b) e) before after ∙ first_kept p seen (length archetypes) c.requires.cache.within in
    let below = matching_below p seen a (subst (In a) kept i) in
    omega (arith, below, c.seen-seen.ensures)

pub returns-in-Ok-clause-ok : goal.returns-in-Ok-clause-ok
returns-in-Ok-clause-ok g c =
    let s = c.args.store.now in
    let is : c.matching-2.result.now ≡ matching_among c.args.registry.now (unfiltered c.args.query.now) s.archetypes (length s.archetypes) =
    c.matching-2.ensures.value ∙ ap (λ (v : CacheState). v.matching) c.in_ok-update.ensures.ok in
    c.in-Ok.ensures.ok
    ∙ ap (λ (m : List ℕ). flat_map (visits_if s (entry_of c.args.query.now c.args.filter.now) c.args.filter.now c.args.last.0) (blocks_among m s.blocks)) is
    ∙ sym (numbered_are c.args.registry.now c.args.query.now c.args.filter.now s c.is_sound.ensures c.requires.ready c.args.last.0)

pub returns-in-Ok-clause-steps : goal.returns-in-Ok-clause-steps
returns-in-Ok-clause-steps g c =
    let s = c.args.store.now in
    let is : c.matching-2.result.now ≡ matching_among c.args.registry.now (unfiltered c.args.query.now) s.archetypes (length s.archetypes) =
    c.matching-2.ensures.value ∙ ap (λ (v : CacheState). v.matching) c.in_ok-update.ensures.ok in
    let archetypes : length c.matching-2.result.now ≡ tally (passes c.args.registry.now (unfiltered c.args.query.now)) s.archetypes =
    ap length is ∙ matching_count (passes c.args.registry.now (unfiltered c.args.query.now)) s.archetypes in
    let blocks : length (blocks_among c.matching-2.result.now s.blocks) ≡ tally (λ (b : Block). passes c.args.registry.now (unfiltered c.args.query.now) b.home.types) (world_blocks s.blocks) =
    ap (λ (m : List ℕ). length (blocks_among m s.blocks)) is ∙ passing_count c.args.registry.now (unfiltered c.args.query.now) s c.is_sound.ensures in
    let first = c.update.ensures.steps in
    let second = c.visits_among.ensures.steps in
    omega (arith, archetypes, blocks, first, second)

pub returns-in-Err-clause-err : goal.returns-in-Err-clause-err
returns-in-Err-clause-err g c =
    let archetypes = c.args.store.now.archetypes in
    let seen = c.args.cache.now.seen in
    let p = λ (k : ℕ). passes c.args.registry.now (unfiltered c.args.query.now) (types_at archetypes k) in
    let before : c.matching.result.now ≡ matching_among c.args.registry.now (unfiltered c.args.query.now) archetypes seen =
    c.matching.ensures.value ∙ ap (λ (v : CacheState). v.matching) c.requires.cache.is in
    let after : c.update.new.self.matching ≡ matching_among c.args.registry.now (unfiltered c.args.query.now) archetypes (length archetypes) =
    ap (λ (v : CacheState). v.matching) c.in_ok-update.ensures.ok in
    let kept : take (length c.matching.result.now) c.update.new.self.matching ≡ matching_among c.args.registry.now (unfiltered c.args.query.now) archetypes seen =
    ap₂ (λ (b e : List ℕ). take (length b) e) before after ∙ first_kept p seen (length archetypes) c.requires.cache.within in
    c.go_back.ensures ∙ ap₂ (λ (m : List ℕ) (n : ℕ). let v : CacheState = record { matching = m; seen = n } in v) kept c.seen-seen.ensures ∙ sym c.requires.cache.is

pub returns-in-Err-clause-steps : goal.returns-in-Err-clause-steps
returns-in-Err-clause-steps g c =
    let s = c.args.store.now in
    let is : c.matching-2.result.now ≡ matching_among c.args.registry.now (unfiltered c.args.query.now) s.archetypes (length s.archetypes) =
    c.matching-2.ensures.value ∙ ap (λ (v : CacheState). v.matching) c.in_ok-update.ensures.ok in
    let archetypes : length c.matching-2.result.now ≡ tally (passes c.args.registry.now (unfiltered c.args.query.now)) s.archetypes =
    ap length is ∙ matching_count (passes c.args.registry.now (unfiltered c.args.query.now)) s.archetypes in
    let blocks : length (blocks_among c.matching-2.result.now s.blocks) ≡ tally (λ (b : Block). passes c.args.registry.now (unfiltered c.args.query.now) b.home.types) (world_blocks s.blocks) =
    ap (λ (m : List ℕ). length (blocks_among m s.blocks)) is ∙ passing_count c.args.registry.now (unfiltered c.args.query.now) s c.is_sound.ensures in
    let first = c.update.ensures.steps in
    let second = c.visits_among.ensures.steps in
    omega (arith, archetypes, blocks, first, second)
