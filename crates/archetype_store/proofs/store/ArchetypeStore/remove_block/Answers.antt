use Rattle.std.proofs.Common.{Vec, Global, ◌≡◌, ℕ, ◌<◌, length, map, filter, not, nat_eq, get_or, set, Some, None, sym, ap, ◌∙◌, subst, arith, true, refl, nat_lt}
use Rattle.std.specs.Prelude.{option_map}
use Rattle.std.specs.Option.{IsSome}
use Rattle.std.specs.Vec.{vec_capacity}
use Rattle.world_model.specs.Members.{In, IsRising}
use Rattle.chunk_block.specs.Blocks.{BlockState}
use Rattle.archetype_store.specs.declared.slots.Held.{Held}
use Rattle.archetype_store.specs.Holding.{Backs, ids_of}
use Rattle.archetype_store.specs.Slots.{slot_at}
use Rattle.archetype_store.specs.Inside.{AreAllTyped, AreUsed, beside, kept, number_at, rank_at, IsOrderly}
use Rattle.archetype_store.proofs.Views.{slot-kept}
use Rattle.std.proofs.lemmas.Bool.{lt-ltb}
use Rattle.std.specs.HashMap.{get}
use Rattle.std.proofs.lemmas.List.{map-set}
use Rattle.archetype_store.specs.declared.homes.Home.{Home}
use Rattle.archetype_store.specs.HomeKeys.{same_home}
use Rattle.archetype_store.specs.Homes.{AreHomes, LosesRank, has_rank, homes_of, lodgers}
use Rattle.archetype_store.proofs.Orders.{below_of}
use Rattle.archetype_store.proofs.Lodging.{home-has, home-rises, home-there, homes-gone}
use Rattle.archetype_store.proofs.Typed.{typed-all, typed-gone}
use Rattle.archetype_store.proofs.Writes.{block-is, slot-some, there}
use Rattle.archetype_store.proofs.Added.{backs-one}
use Rattle.archetype_store.proofs.Removed.{free-fits, members-below, numbers-removed, numbers-rise, numbers-used, orderly-removed, rank-below, rank-in, released, same-item, standing, store-removed}
use Rattle.archetype_store.proofs.store.ArchetypeStore.remove_block.Goals as goal

abbrev Asked : BlockState → Type 0
Asked b = length b.rows < b.capacity

pub archetype_and_rank-archetype-requires : goal.archetype_and_rank-archetype-requires
archetype_and_rank-archetype-requires c =
    subst (λ slots. IsSome (slot_at slots c.args.number)) (sym c.deref.ensures.value) (slot-some c.self.inside c.args.self.now c.self.view_is c.args.number Asked c.requires)

pub index-requires : goal.index-requires
index-requires c =
    let s = c.self.inside in
    let t = there s c.args.self.now c.self.view_is c.args.number Asked c.requires in
    let r = standing s.slots.items c.deref.result.now c.args.number t.0 c.archetype_and_rank-archetype.result c.deref.ensures.value t.1.0 c.archetype_and_rank-archetype.ensures in
    omega (arith, members-below s c.self.invariant c.args.number t.0 t.1.0, r.0)

pub place_in-at-requires-clause-used : goal.place_in-at-requires-clause-used
place_in-at-requires-clause-used c =
    let s = c.self.inside in
    let t = there s c.args.self.now c.self.view_is c.args.number Asked c.requires in
    let r = standing s.slots.items c.deref.result.now c.args.number t.0 c.archetype_and_rank-archetype.result c.deref.ensures.value t.1.0 c.archetype_and_rank-archetype.ensures in
    let at : c.index.result.now ≡ get_or s.members.items (t.0).archetype c.index.result.now = subst (λ a. c.index.result.now ≡ get_or s.members.items a c.index.result.now) r.0 c.index.ensures in
    subst (λ slots. AreUsed slots c.deref-3.result.now) (sym c.deref-2.ensures.value)
    (subst (AreUsed s.slots.items) (sym c.deref-3.ensures.value) (numbers-used s c.self.invariant c.args.number t.0 t.1.0 c.index.result.now at))

pub place_in-at-requires-clause-rising : goal.place_in-at-requires-clause-rising
place_in-at-requires-clause-rising c =
    let s = c.self.inside in
    let t = there s c.args.self.now c.self.view_is c.args.number Asked c.requires in
    let r = standing s.slots.items c.deref.result.now c.args.number t.0 c.archetype_and_rank-archetype.result c.deref.ensures.value t.1.0 c.archetype_and_rank-archetype.ensures in
    let at : c.index.result.now ≡ get_or s.members.items (t.0).archetype c.index.result.now = subst (λ a. c.index.result.now ≡ get_or s.members.items a c.index.result.now) r.0 c.index.ensures in
    subst (λ slots. IsRising (map (rank_at slots) c.deref-3.result.now)) (sym c.deref-2.ensures.value)
    (subst (λ ns. IsRising (map (rank_at s.slots.items) ns)) (sym c.deref-3.ensures.value) (numbers-rise s c.self.invariant c.args.number t.0 t.1.0 c.index.result.now at))

pub place_in-at-requires-clause-there : goal.place_in-at-requires-clause-there
place_in-at-requires-clause-there c =
    let s = c.self.inside in
    let t = there s c.args.self.now c.self.view_is c.args.number Asked c.requires in
    let r = standing s.slots.items c.deref.result.now c.args.number t.0 c.archetype_and_rank-archetype.result c.deref.ensures.value t.1.0 c.archetype_and_rank-archetype.ensures in
    let at : c.index.result.now ≡ get_or s.members.items (t.0).archetype c.index.result.now = subst (λ a. c.index.result.now ≡ get_or s.members.items a c.index.result.now) r.0 c.index.ensures in
    subst (λ k. In k (map (rank_at c.deref-2.result.now) c.deref-3.result.now)) (sym r.1)
    (subst (λ slots. In (t.0).rank (map (rank_at slots) c.deref-3.result.now)) (sym c.deref-2.ensures.value)
    (subst (λ ns. In (t.0).rank (map (rank_at s.slots.items) ns)) (sym c.deref-3.ensures.value) (rank-in s c.self.invariant c.args.number t.0 t.1.0 c.index.result.now at)))

pub index_mut-requires : goal.index_mut-requires
index_mut-requires c =
    let s = c.self.inside in
    let t = there s c.args.self.now c.self.view_is c.args.number Asked c.requires in
    let r = standing s.slots.items c.deref.result.now c.args.number t.0 c.archetype_and_rank-archetype.result c.deref.ensures.value t.1.0 c.archetype_and_rank-archetype.ensures in
    omega (arith, members-below s c.self.invariant c.args.number t.0 t.1.0, r.0)

pub remove-requires : goal.remove-requires
remove-requires c =
    let s = c.self.inside in
    let t = there s c.args.self.now c.self.view_is c.args.number Asked c.requires in
    let r = standing s.slots.items c.deref.result.now c.args.number t.0 c.archetype_and_rank-archetype.result c.deref.ensures.value t.1.0 c.archetype_and_rank-archetype.ensures in
    let a : ℕ = c.archetype_and_rank-archetype.result.0 in
    let below : a < length s.members.items = omega (arith, members-below s c.self.invariant c.args.number t.0 t.1.0, r.0) in
    let same : c.index.result.now ≡ c.index_mut.result.now = same-item s.members.items a c.index.result.now c.index_mut.result.now below c.index.ensures c.index_mut.ensures.value in
    omega (arith, c.place_in-at.ensures.within, ap length c.deref-3.ensures.value, ap (λ (v : Vec ℕ Global). length v.items) same)

pub take_out-held-requires : goal.take_out-held-requires
take_out-held-requires c = slot-some c.self.inside c.args.self.now c.self.view_is c.args.number Asked c.requires

pub index_mut-requires-2 : goal.index_mut-requires-2
index_mut-requires-2 c = omega (arith, home-there c.self.inside c.self.invariant c.args.number c.take_out-held.result c.take_out-held.ensures.held)

pub drop_rank-requires-clause-rising : goal.drop_rank-requires-clause-rising
drop_rank-requires-clause-rising c = home-rises c.self.inside c.self.invariant c.args.number c.take_out-held.result c.take_out-held.ensures.held c.index_mut-2.result.now c.index_mut-2.ensures.value

pub drop_rank-requires-clause-there : goal.drop_rank-requires-clause-there
drop_rank-requires-clause-there c =
    let s = c.self.inside in
    let h : Held = c.take_out-held.result in
    let r = standing s.slots.items c.deref.result.now c.args.number h c.archetype_and_rank-archetype.result c.deref.ensures.value c.take_out-held.ensures.held c.archetype_and_rank-archetype.ensures in
    ap (λ k. has_rank k c.index_mut-2.result.now.ranks.items) r.1
    ∙ home-has s c.self.invariant c.args.number h c.take_out-held.ensures.held c.index_mut-2.result.now c.index_mut-2.ensures.value
    ∙ lt-ltb (length h.block.rows) h.block.capacity (block-is s c.args.self.now c.self.view_is c.args.number Asked c.requires h c.take_out-held.ensures.held)

pub index_mut-requires-3 : goal.index_mut-requires-3
index_mut-requires-3 c =
    let s = c.self.inside in
    let r = standing s.slots.items c.deref.result.now c.args.number c.take_out-held.result c.archetype_and_rank-archetype.result c.deref.ensures.value c.take_out-held.ensures.held c.archetype_and_rank-archetype.ensures in
    omega (arith, rank-below s c.self.invariant c.args.number c.take_out-held.result c.take_out-held.ensures.held, r.1)

pub push_reserved-requires : goal.push_reserved-requires
push_reserved-requires c = omega (arith, free-fits c.self.inside c.self.invariant c.args.number c.take_out-held.result c.take_out-held.ensures.held)

pub release_all-requires : goal.release_all-requires
release_all-requires c =
    let s = c.self.inside in
    subst (λ ps. Backs s.shared (ids_of ps)) (sym c.deref-4.ensures.value)
    (backs-one s.shared (kept s.slots.items) c.args.number (beside c.take_out-held.result) c.self.invariant.0.backs (slot-kept s.slots.items c.args.number ∙ ap (option_map beside) c.take_out-held.ensures.held))

pub invariant_of-self : goal.invariant_of-self
invariant_of-self c =
    let s = c.self.inside in
    let h : Held = c.take_out-held.result in
    let at = c.take_out-held.ensures.held in
    let r = standing s.slots.items c.deref.result.now c.args.number h c.archetype_and_rank-archetype.result c.deref.ensures.value at c.archetype_and_rank-archetype.ensures in
    let a : ℕ = c.archetype_and_rank-archetype.result.0 in
    let w : Vec ℕ Global = c.index_mut.result.now in
    let below : a < length s.members.items = omega (arith, members-below s c.self.invariant c.args.number h at, r.0) in
    let same : c.index.result.now ≡ w = same-item s.members.items a c.index.result.now w below c.index.ensures c.index_mut.ensures.value in
    let numbers : c.deref-3.result.now ≡ w.items = c.deref-3.ensures.value ∙ ap (λ (v : Vec ℕ Global). v.items) same in
    let at_w : w ≡ get_or s.members.items h.archetype w = subst (λ k. w ≡ get_or s.members.items k w) r.0 c.index_mut.ensures.value in
    let within : c.place_in-at.result < length w.items = omega (arith, c.place_in-at.ensures.within, ap length numbers) in
    let rank : rank_at s.slots.items (number_at w.items c.place_in-at.result) ≡ h.rank =
    sym (ap (λ slots. rank_at slots (number_at c.deref-3.result.now c.place_in-at.result)) c.deref-2.ensures.value ∙ ap (λ ns. rank_at s.slots.items (number_at ns c.place_in-at.result)) numbers)
    ∙ c.place_in-at.ensures.rank ∙ r.1 in
    let left : c.remove.new.self.items ≡ filter (λ m. not (nat_eq m c.args.number)) w.items = c.remove.ensures.items ∙ numbers-removed s c.self.invariant c.args.number h at w at_w c.place_in-at.result within rank in
    let orderly =
    subst (λ k. IsOrderly s.registry s.archetypes.items (map (λ (v : Vec ℕ Global). v.items) (set s.members.items k c.remove.new.self)) (kept c.take_out-held.new.slots.items) c.push_reserved.new.self.items (vec_capacity c.push_reserved.new.self) (set s.order.items c.archetype_and_rank-archetype.result.1 None) c.release_all.new.table)
    (sym r.0)
    (orderly-removed s c.self.invariant c.args.number h at w at_w c.remove.new.self left c.release_all.new.table c.deref-4.result.now c.deref-4.ensures.value c.release_all.ensures
    c.take_out-held.new.slots.items c.take_out-held.ensures.slots c.push_reserved.new.self.items c.push_reserved.ensures.items (vec_capacity c.push_reserved.new.self) c.push_reserved.ensures.capacity
    (set s.order.items c.archetype_and_rank-archetype.result.1 None) (ap (λ k. set s.order.items k None) r.1)) in
    let slots_kept : kept c.take_out-held.new.slots.items ≡ set (kept s.slots.items) c.args.number None = ap kept c.take_out-held.ensures.slots ∙ map-set (option_map beside) s.slots.items c.args.number None in
    let there_kept : slot_at (kept s.slots.items) c.args.number ≡ Some (beside h) = slot-kept s.slots.items c.args.number ∙ ap (option_map beside) at in
    let keeps = (released s.shared c.release_all.new.table (kept s.slots.items) c.args.number (beside h) c.deref-4.result.now c.self.invariant.0.backs there_kept c.deref-4.ensures.value c.release_all.ensures).keeps in
    let v : Home = c.index_mut-2.result.now in
    let w2 : Home = record v { ranks = c.drop_rank.new.ranks } in
    let roomy : nat_lt (length h.block.rows) h.block.capacity ≡ true =
    lt-ltb (length h.block.rows) h.block.capacity (block-is s c.args.self.now c.self.view_is c.args.number Asked c.requires h at) in
    let loses : LosesRank v.ranks.items w2.ranks.items h.rank = subst (LosesRank v.ranks.items w2.ranks.items) r.1 c.drop_rank.ensures.ranks in (
      orderly,
      (
        subst (AreAllTyped c.release_all.new.table) (sym slots_kept)
            (typed-all s.shared c.release_all.new.table (set (kept s.slots.items) c.args.number None) keeps (typed-gone s.shared (kept s.slots.items) c.args.number (below_of (kept s.slots.items) c.args.number (beside h) there_kept) c.self.invariant.1.0)),
        (
          subst (λ sl. AreHomes (homes_of (set s.homes.items h.home w2)) (get same_home s.found) (lodgers sl) (set s.order.items c.archetype_and_rank-archetype.result.1 None)) (sym c.take_out-held.ensures.slots)
              (subst (λ k. AreHomes (homes_of (set s.homes.items h.home w2)) (get same_home s.found) (lodgers (set s.slots.items c.args.number None)) (set s.order.items k None)) (sym r.1)
              (homes-gone s c.self.invariant c.args.number h at v c.index_mut-2.ensures.value roomy w2 refl loses c.drop_rank.ensures.capacity)),
          c.self.invariant.1.1.1,
        ),
      ),
    )

pub returns : goal.returns
returns c =
    let s = c.self.inside in
    let h : Held = c.take_out-held.result in
    let at = c.take_out-held.ensures.held in
    let r = standing s.slots.items c.deref.result.now c.args.number h c.archetype_and_rank-archetype.result c.deref.ensures.value at c.archetype_and_rank-archetype.ensures in
    store-removed s c.self.invariant c.args.number h at c.release_all.new.table c.deref-4.result.now c.deref-4.ensures.value c.release_all.ensures
    c.take_out-held.new.slots.items c.take_out-held.ensures.slots (set s.order.items c.archetype_and_rank-archetype.result.1 None) (ap (λ k. set s.order.items k None) r.1)
    c.args.self.now c.self.view_is
