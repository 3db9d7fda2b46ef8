use Rattle.std.proofs.Common.{ℕ, ◌≡◌, ◌∙◌, length, sum_by, take, get_or, sym, subst, ap, arith}
use Rattle.std.proofs.lemmas.List.{take_all}
use Rattle.std.proofs.lemmas.List.Sums.{sum_by_more_le}
use Rattle.world_model.specs.Members.{In, IsRising, tally}
use Rattle.world_model.specs.World.{Block}
use Rattle.archetype_store.specs.Stores.{numbers_in}
use Rattle.run_model.specs.Query.{passes}
use Rattle.query_select.specs.Caches.{CacheState, full_cache}
use Rattle.query_select.specs.Visits.{blocks_among}
use Rattle.query_select.proofs.Walks.{part_in}
use Rattle.query_select.proofs.Grouped.{counted, counted_few}
use Rattle.query_select.proofs.Numbered.{all_matching, passing_count}
use Rattle.query_select.proofs.cache.Cache.passing.Goals as goal

pub blocks_of-requires : goal.blocks_of-requires
blocks_of-requires c =
    let member = part_in c.deref-a-items.result.now c.loop-a.a-index c.a-item.result c.loop-a-test.true c.a-item.is in
    let below = c.self.invariant.1 c.a-item.result (subst (In c.a-item.result) c.deref-a-items.ensures.value member) in
    let seen = ap (λ (v : CacheState). v.seen) c.self.view_is in
    omega (arith, below, c.requires, seen, ap length c.store-store.ensures.archetypes)

pub overflow_cast-count : goal.overflow_cast-count
overflow_cast-count c =
    let blocks = c.store-store.result.now.blocks in
    let items = c.deref-a-items.result.now in
    let rising : IsRising items = subst IsRising (sym c.deref-a-items.ensures.value) c.self.invariant.0 in
    let here : length c.blocks_of.result.now ≡ length (numbers_in (get_or items c.loop-a.a-index c.a-item.result) blocks) =
    ap length c.blocks_of.ensures ∙ ap (λ (a : ℕ). length (numbers_in a blocks)) c.a-item.is in
    let more = sum_by_more_le (λ (a : ℕ). length (numbers_in a blocks)) items c.loop-a.a-index c.a-item.result c.loop-a-test.true in
    let all = counted_few blocks items rising in
    let few = c.is_sound.ensures.few in
    omega (arith, here, more, all, few)

pub overflow_add-count : goal.overflow_add-count
overflow_add-count c =
    let blocks = c.store-store.result.now.blocks in
    let items = c.deref-a-items.result.now in
    let rising : IsRising items = subst IsRising (sym c.deref-a-items.ensures.value) c.self.invariant.0 in
    let here : length c.blocks_of.result.now ≡ length (numbers_in (get_or items c.loop-a.a-index c.a-item.result) blocks) =
    ap length c.blocks_of.ensures ∙ ap (λ (a : ℕ). length (numbers_in a blocks)) c.a-item.is in
    let so_far : c.loop-a.count ≡ sum_by (λ (a : ℕ). length (numbers_in a blocks)) (take c.loop-a.a-index items) = c.loop-a.invariant in
    let more = sum_by_more_le (λ (a : ℕ). length (numbers_in a blocks)) items c.loop-a.a-index c.a-item.result c.loop-a-test.true in
    let all = counted_few blocks items rising in
    let few = c.is_sound.ensures.few in
    omega (arith, here, so_far, more, all, few)

pub returns : goal.returns
returns c = λ s full.
    let store = c.store-store.result.now in
    let registry = c.args.world.now.world.registry in
    let items = c.deref-a-items.result.now in
    let seen_items : items ≡ c.args.self.now.matching = c.deref-a-items.ensures.value ∙ ap (λ (v : CacheState). v.matching) c.self.view_is in
    let all : items ≡ all_matching registry s store c.is_sound.ensures =
    seen_items ∙ ap (λ (v : CacheState). v.matching) full ∙ ap (λ ts. (full_cache registry s ts).matching) (sym c.store-store.ensures.archetypes) in
    let rising : IsRising items = subst IsRising (sym c.deref-a-items.ensures.value) c.self.invariant.0 in
    c.loop-a.invariant
    ∙ ap (sum_by (λ (a : ℕ). length (numbers_in a store.blocks))) (take_all c.loop-a.a-index items c.loop-a-test.false)
    ∙ counted store.blocks items rising ∙ ap (λ m. length (blocks_among m store.blocks)) all ∙ passing_count registry s store c.is_sound.ensures
    ∙ ap (tally (λ (b : Block). passes registry s b.home.types)) c.store-store.ensures.blocks
