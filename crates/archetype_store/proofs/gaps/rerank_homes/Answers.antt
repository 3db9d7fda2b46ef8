use Rattle.std.proofs.Common.{◌≡◌, ℕ, ◌<◌, List, length, get_or, set, sym, ap, ◌∙◌, arith, rules}
use Rattle.std.specs.Vec.{vec_capacity}
use Rattle.std.proofs.lemmas.List.{get_or-map, length-map, map-set}
use Rattle.std.proofs.lemmas.List.Edits.{map_over_more}
use Rattle.archetype_store.specs.declared.homes.Home.{Home}
use Rattle.archetype_store.specs.Homes.{HomeState, home_state, homes_of}
use Rattle.archetype_store.specs.Gaps.{reranked}
use Rattle.archetype_store.proofs.gaps.rerank_homes.Goals as goal

pub loop-h-preserved : goal.loop-h-preserved
loop-h-preserved c =
    let first : List HomeState = homes_of c.args.homes.now.items in
    let homes : List Home = c.loop-h.homes.items in
    let h : ℕ = c.loop-h.h in
    let v : Home = c.index_mut.result.now in
    let w : Home = record v { ranks = c.rerank.new.places } in
    let below : h < length first = omega (arith, c.loop-h-test.true, c.len-h-end.ensures, c.args.homes.now.ok.0, length-map c.args.homes.now.items home_state) in
    let within : h < length homes = search rules in
    let new : home_state w ≡ reranked c.args.slots.now c.args.order.now (home_state v) =
    ap (λ rs. record { ranks = rs; full = v.full; room = vec_capacity w.ranks }) c.rerank.ensures.ranks
    ∙ ap (λ k. record (reranked c.args.slots.now c.args.order.now (home_state v)) { room = k }) c.rerank.ensures.capacity in
    let at : home_state v ≡ get_or (homes_of homes) h (home_state v) = ap home_state c.index_mut.ensures.value ∙ sym (get_or-map home_state homes h v (home_state v) within) in
    map-set home_state homes h w ∙ ap (set (homes_of homes) h) new
    ∙ map_over_more (reranked c.args.slots.now c.args.order.now) first (homes_of homes) h (home_state v) below c.loop-h.invariant at
