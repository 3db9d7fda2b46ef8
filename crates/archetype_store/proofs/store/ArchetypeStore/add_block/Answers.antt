use Rattle.std.proofs.Common.{Vec, Global, get_or, set, nat_eq, nat_lt, true, false, refl, ◌≤◌, ◌≡◌, ℕ, ◌<◌, List, [], ◌∷◌, ◌++◌, length, map, Option, Some, None, Result, Ok, Err, OnErr, sym, ap, ◌∙◌, subst, arith}
use Rattle.std.specs.Vec.{vec_capacity}
use Rattle.std.specs.Prelude.{unwrap_or, option_map}
use Rattle.std.specs.List.{list_any}
use Rattle.std.proofs.lemmas.List.{get_or_default, get_or-set_same, length-map}
use Rattle.ent_types.specs.declared.type_info.TypeInfo.{TypeInfo}
use Rattle.ent_types.specs.declared.value.Value.{Value}
use Rattle.world_model.specs.Part.{PartOf, part_type, part_of as seen_part}
use Rattle.world_model.specs.World.{capacity}
use Rattle.chunk_block.specs.Blocks.{BlockState, new_block as block_of}
use Rattle.archetype_store.specs.declared.slots.Held.{Held}
use Rattle.ent_types.specs.declared.memory.Memory.{Memory}
use Rattle.archetype_store.specs.Holding.{ids_of, parts_of}
use Rattle.archetype_store.specs.Slots.{AreFree, put_slot, slot_at}
use Rattle.archetype_store.specs.Stores.{StoreState, types_at, shared_types, registry_of, new_numbered}
use Rattle.std.specs.HashMap.{get}
use Rattle.std.proofs.lemmas.Bool.{lt-ltb}
use Rattle.archetype_store.specs.declared.homes.Home.{Home}
use Rattle.archetype_store.specs.HomeKeys.{same_home}
use Rattle.archetype_store.specs.Homes.{AreHomes, IsHomeFor, homes_of, key_of, lodger, lodgers}
use Rattle.archetype_store.proofs.Lodging.{few-homes, homes-put}
use Rattle.archetype_store.proofs.Typed.{typed-all, typed-put}
use Rattle.archetype_store.specs.Inside.{AreAllTyped, Beside, beside, kept, all_ids, members_at, numbered, blocks_in, ranks_from, IsOfArchetype, IsOrderly}
use Rattle.archetype_store.proofs.Added.{orderly-room, blocks-kept, blocks-count, order-there, kept-free, free-kept, kept-put, length-kept, length-put-most, members-more, new-of-archetype, orderly-put, blocks-put, number-new}
use Rattle.archetype_store.proofs.Views.{slot-kept}
use Rattle.archetype_store.proofs.store.ArchetypeStore.add_block.Goals as goal

pub invariant_of-self : goal.invariant_of-self
invariant_of-self c =
    let s = c.self.inside in
    let t = c.take_room.new in (
      orderly-room s c.self.invariant c.a.inside.0 t.members c.index_mut.result.now (c.take_room.ensures.members_stay ∙ ap (λ (v : Vec ℕ Global). v.items) c.index_mut.ensures.value)
          t.slots.items c.take_room.ensures.slots_stay t.free.items c.take_room.ensures.free_stay (vec_capacity t.free) c.take_room.ensures.free_capacity t.order.items c.take_room.ensures.order_stays
          s.shared c.self.invariant.0.backs,
      (
        subst (λ sl. AreAllTyped s.shared (kept sl)) (sym c.take_room.ensures.slots_stay) c.self.invariant.1.0,
        (
          subst (λ sl. AreHomes (homes_of s.homes.items) (get same_home s.found) (lodgers sl) t.order.items) (sym c.take_room.ensures.slots_stay)
              (subst (AreHomes (homes_of s.homes.items) (get same_home s.found) (lodgers s.slots.items)) (sym c.take_room.ensures.order_stays) c.self.invariant.1.1.0),
          c.self.invariant.1.1.1,
        ),
      ),
    )

pub invariant_of-self-in_err-held : goal.invariant_of-self-in_err-held
invariant_of-self-in_err-held c =
    let s = c.self.inside in
    let t = c.take_room.new in (
      orderly-room s c.self.invariant c.a.inside.0 t.members c.index_mut.result.now (c.take_room.ensures.members_stay ∙ ap (λ (v : Vec ℕ Global). v.items) c.index_mut.ensures.value)
          t.slots.items c.take_room.ensures.slots_stay t.free.items c.take_room.ensures.free_stay (vec_capacity t.free) c.take_room.ensures.free_capacity t.order.items c.take_room.ensures.order_stays
          c.new_held.new.table (c.in_err-held.ensures.err (all_ids (kept s.slots.items)) c.self.invariant.0.backs).backs,
      (
        subst (λ sl. AreAllTyped c.new_held.new.table (kept sl)) (sym c.take_room.ensures.slots_stay)
            (typed-all s.shared c.new_held.new.table (kept s.slots.items) (c.in_err-held.ensures.err (all_ids (kept s.slots.items)) c.self.invariant.0.backs).keeps c.self.invariant.1.0),
        (
          subst (λ sl. AreHomes (homes_of c.new_held.new.homes.items) (get same_home c.new_held.new.found) (lodgers sl) t.order.items) (sym c.take_room.ensures.slots_stay)
              (subst (AreHomes (homes_of c.new_held.new.homes.items) (get same_home c.new_held.new.found) (lodgers s.slots.items)) (sym c.take_room.ensures.order_stays)
              (c.in_err-held.ensures.homes (lodgers s.slots.items) s.order.items c.self.invariant.1.1.0)),
          c.self.invariant.1.1.1,
        ),
      ),
    )

on_err : {X : Type 0} (r : Result X Memory) (P : Type 0) → P → OnErr r P
on_err (Ok x) P p = tt
on_err (Err e) P p = p

pub returns-in_err-held-clause-err : goal.returns-in_err-held-clause-err
returns-in_err-held-clause-err c =
    let s = c.self.inside in
    let t = c.take_room.new in
    on_err c.from_residual-in_err-held.result _
    (ap (λ slots. record { registry = s.registry; archetypes = s.archetypes.items; blocks = blocks_in slots c.new_held.new.table t.order.items; ranks = ranks_from 0 t.order.items }) c.take_room.ensures.slots_stay
    ∙ ap (λ order. record { registry = s.registry; archetypes = s.archetypes.items; blocks = blocks_in s.slots.items c.new_held.new.table order; ranks = ranks_from 0 order }) c.take_room.ensures.order_stays
    ∙ ap (λ bs. record { registry = s.registry; archetypes = s.archetypes.items; blocks = bs; ranks = ranks_from 0 s.order.items })
    (blocks-kept s.slots.items s.shared c.new_held.new.table s.order.items (c.in_err-held.ensures.err (all_ids (kept s.slots.items)) c.self.invariant.0.backs).keeps)
    ∙ c.self.view_is)

pub new_held-requires-clause-few : goal.new_held-requires-clause-few
new_held-requires-clause-few c = few-homes c.self.inside c.self.invariant

pub put-number-requires-clause-few : goal.put-number-requires-clause-few
put-number-requires-clause-few c none =
    let s = c.self.inside in
    let blocks : length c.args.self.now.blocks ≡ length (blocks_in s.slots.items s.shared s.order.items) = ap (λ (v : StoreState). length v.blocks) (sym c.self.view_is) in
    omega (
      arith,
      ap length c.take_room.ensures.slots_stay,
      ap length (sym c.take_room.ensures.free_stay ∙ none),
      c.self.invariant.0.counted,
      c.self.invariant.0.order_counted,
      blocks,
      c.requires.few,
      blocks-count s.slots.items s.shared s.order.items (order-there s.slots.items s.order.items c.self.invariant.0.ordered),
      length-kept s.slots.items,
    )

pub put-number-requires-clause-are_free : goal.put-number-requires-clause-are_free
put-number-requires-clause-are_free c =
    let s = c.self.inside in
    subst (λ slots. AreFree slots c.take_room.new.free.items) (sym c.take_room.ensures.slots_stay)
    (subst (AreFree s.slots.items) (sym c.take_room.ensures.free_stay) (kept-free s.slots.items s.free.items c.self.invariant.0.are_free))

pub put-number-requires-clause-bound : goal.put-number-requires-clause-bound
put-number-requires-clause-bound c =
    let s = c.self.inside in
    omega (arith, ap length c.take_room.ensures.slots_stay, c.self.invariant.0.few, length-kept s.slots.items)

pub invariant_of-self-2 : goal.invariant_of-self-2
invariant_of-self-2 c =
    let s = c.self.inside in
    let n : ℕ = c.put-number.result in
    let h : Held = c.in_ok-held.held in
    let a : ℕ = c.a.inside.0 in
    let registry : List TypeInfo = unwrap_or s.registry [] in
    let old : List (Option Beside) = kept s.slots.items in
    let members : List (List ℕ) = map (λ (v : Vec ℕ Global). v.items) s.members.items in
    let slots : c.put-number.new.slots.items ≡ put_slot s.slots.items n h = c.put-number.ensures.slots ∙ ap (λ (sl : List (Option Held)). put_slot sl n h) c.take_room.ensures.slots_stay in
    let vacant : slot_at s.slots.items n ≡ None = subst (λ (sl : List (Option Held)). slot_at sl n ≡ None) c.take_room.ensures.slots_stay c.put-number.ensures.vacant in
    let within : n ≤ length s.slots.items = omega (arith, c.put-number.ensures.within, ap length c.take_room.ensures.slots_stay) in
    let new : kept c.put-number.new.slots.items ≡ put_slot old n (beside h) = ap kept slots ∙ kept-put s.slots.items n h in
    let last : h.rank ≡ length s.order.items = omega (arith, c.in_ok-held.ensures.rank, c.len-rank.ensures, c.take_room.new.order.ok.0, ap length c.take_room.ensures.order_stays) in
    let below : a < length s.archetypes.items = subst (λ k. k < length s.archetypes.items) (sym c.a.view_is) (subst (λ (v : StoreState). c.args.a < length v.archetypes) (sym c.self.view_is) c.requires.there) in
    let below_members : a < length s.members.items = omega (arith, below, c.self.invariant.0.members_there, length-map s.members.items (λ (v : Vec ℕ Global). v.items)) in
    let types : c.index-types.result.now ≡ types_at s.archetypes.items a = c.index-types.ensures ∙ sym (get_or_default s.archetypes.items a [] c.index-types.result.now below) in
    let asked : map (λ p. part_type (seen_part p)) c.args.shared.now ≡ shared_types registry (types_at s.archetypes.items a) =
    subst (λ k. map (λ p. part_type (seen_part p)) c.args.shared.now ≡ shared_types registry (types_at s.archetypes.items k)) (sym c.a.view_is)
    (subst (λ (v : StoreState). map (λ p. part_type (seen_part p)) c.args.shared.now ≡ shared_types (registry_of v) (types_at v.archetypes c.args.a)) (sym c.self.view_is) c.requires.parts) in
    let of_archetype : IsOfArchetype registry s.archetypes.items (beside h) =
    new-of-archetype registry s.archetypes.items c.new_held.new.table a c.index-types.result.now c.args.shared.now h below types c.in_ok-held.ensures.archetype c.in_ok-held.ensures.block c.in_ok-held.ensures.parts asked in
    let index : c.index_mut-2.result.now ≡ c.take_room.new.members = c.index_mut-2.ensures.value ∙ get_or-set_same s.members.items a c.take_room.new.members c.index_mut-2.result.now below_members in
    let more : c.push_reserved-2.new.self.items ≡ c.take_room.new.members.items ++ n ∷ [] = c.push_reserved-2.ensures.items ∙ ap (λ (v : Vec ℕ Global). v.items ++ n ∷ []) index in
    let same : c.take_room.new.members.items ≡ (get_or s.members.items a c.index_mut.result.now).items = c.take_room.ensures.members_stay ∙ ap (λ (v : Vec ℕ Global). v.items) c.index_mut.ensures.value in
    let lists : map (λ (v : Vec ℕ Global). v.items) (set (set s.members.items a c.take_room.new.members) a c.push_reserved-2.new.self) ≡ set members a (members_at members a ++ n ∷ []) =
    members-more s.members.items a n c.take_room.new.members c.push_reserved-2.new.self c.index_mut.result.now below_members same more in
    let order : c.push_reserved.new.self.items ≡ s.order.items ++ Some n ∷ [] = c.push_reserved.ensures.items ∙ ap (λ (o : List (Option ℕ)). o ++ Some n ∷ []) c.take_room.ensures.order_stays in
    let is : IsOrderly s.registry s.archetypes.items (set members h.archetype (members_at members h.archetype ++ n ∷ [])) (put_slot old n (beside h)) c.put-number.new.free.items (vec_capacity c.put-number.new.free)
    (s.order.items ++ Some n ∷ []) c.new_held.new.table =
    orderly-put s.registry s.archetypes.items members old s.free.items (vec_capacity s.free) s.order.items s.shared c.self.invariant.0 n (beside h) c.put-number.new.free.items (vec_capacity c.put-number.new.free)
    c.new_held.new.table (slot-kept s.slots.items n ∙ ap (option_map beside) vacant) (omega (arith, within, length-kept s.slots.items)) last of_archetype
    (subst (λ k. AreFree k c.put-number.new.free.items) new (free-kept c.put-number.new.slots.items c.put-number.new.free.items c.put-number.ensures.are_free))
    (omega (arith, c.put-number.ensures.count, ap length c.take_room.ensures.slots_stay, ap length c.take_room.ensures.free_stay, length-kept s.slots.items, length-kept c.put-number.new.slots.items, ap length new))
    (omega (arith, length-put-most old n (beside h), length-kept s.slots.items, ap length c.take_room.ensures.slots_stay, c.in_ok-take_room.ensures.free_room, c.put-number.ensures.free_capacity))
    (omega (arith, c.put-number.ensures.bound, length-kept c.put-number.new.slots.items, ap length new))
    (c.in_ok-held.ensures.held (all_ids old) c.self.invariant.0.backs).backs in
    let keeps = (c.in_ok-held.ensures.held (all_ids old) c.self.invariant.0.backs).keeps in
    let v : Home = c.index_mut-3.result.now in
    let w : Home = record v { ranks = c.push_reserved-3.new.self } in
    let block : h.block ≡ block_of registry (types_at s.archetypes.items a) (capacity registry (types_at s.archetypes.items a)) =
    c.in_ok-held.ensures.block ∙ ap (λ ts. block_of registry ts (capacity registry ts)) types in
    let roomy : nat_lt (length h.block.rows) h.block.capacity ≡ true =
    ap (λ (b : BlockState). nat_lt (length b.rows) b.capacity) block ∙ lt-ltb 0 (capacity registry (types_at s.archetypes.items a)) (c.self.invariant.0.fit a below) in
    let for : IsHomeFor (homes_of c.new_held.new.homes.items) (get same_home c.new_held.new.found) (key_of (lodger h)) h.home =
    subst (λ (k : ℕ). IsHomeFor (homes_of c.new_held.new.homes.items) (get same_home c.new_held.new.found) (record { archetype = k; ids = ids_of h.shared.items }) h.home) (sym c.in_ok-held.ensures.archetype) c.in_ok-held.ensures.home in
    let lodged =
    homes-put s c.self.invariant n h vacant within last c.new_held.new.homes.items (get same_home c.new_held.new.found) (c.in_ok-held.ensures.homes (lodgers s.slots.items) s.order.items c.self.invariant.1.1.0) for roomy
    v c.index_mut-3.ensures.value w refl (c.push_reserved-3.ensures.items ∙ ap (λ k. v.ranks.items ++ k ∷ []) (sym c.in_ok-held.ensures.rank)) c.push_reserved-3.ensures.capacity in
    let lists_are =
    subst (λ m. IsOrderly s.registry s.archetypes.items m (kept c.put-number.new.slots.items) c.put-number.new.free.items (vec_capacity c.put-number.new.free) c.push_reserved.new.self.items c.new_held.new.table)
    (ap (λ k. set members k (members_at members k ++ n ∷ [])) c.in_ok-held.ensures.archetype ∙ sym lists)
    (subst (λ k. IsOrderly s.registry s.archetypes.items (set members h.archetype (members_at members h.archetype ++ n ∷ [])) k c.put-number.new.free.items (vec_capacity c.put-number.new.free) c.push_reserved.new.self.items c.new_held.new.table)
    (sym new)
    (subst (λ o. IsOrderly s.registry s.archetypes.items (set members h.archetype (members_at members h.archetype ++ n ∷ [])) (put_slot old n (beside h)) c.put-number.new.free.items (vec_capacity c.put-number.new.free) o c.new_held.new.table)
    (sym order) is)) in (
      lists_are,
      (
        subst (AreAllTyped c.new_held.new.table) (sym new)
            (typed-put c.new_held.new.table old n (beside h) (omega (arith, within, length-kept s.slots.items)) c.in_ok-held.ensures.typed (typed-all s.shared c.new_held.new.table old keeps c.self.invariant.1.0)),
        (
          subst (λ sl. AreHomes (homes_of (set c.new_held.new.homes.items h.home w)) (get same_home c.new_held.new.found) (lodgers sl) c.push_reserved.new.self.items) (sym slots)
              (subst (AreHomes (homes_of (set c.new_held.new.homes.items h.home w)) (get same_home c.new_held.new.found) (lodgers (put_slot s.slots.items n h))) (sym order) lodged),
          c.self.invariant.1.1.1,
        ),
      ),
    )

pub returns-clause-ok : goal.returns-clause-ok
returns-clause-ok c =
    let s = c.self.inside in
    let n : ℕ = c.put-number.result in
    let h : Held = c.in_ok-held.held in
    let a : ℕ = c.a.inside.0 in
    let registry : List TypeInfo = unwrap_or s.registry [] in
    let parts : List (PartOf Value) = map seen_part c.args.shared.now in
    let slots : c.put-number.new.slots.items ≡ put_slot s.slots.items n h = c.put-number.ensures.slots ∙ ap (λ (sl : List (Option Held)). put_slot sl n h) c.take_room.ensures.slots_stay in
    let vacant : slot_at s.slots.items n ≡ None = subst (λ (sl : List (Option Held)). slot_at sl n ≡ None) c.take_room.ensures.slots_stay c.put-number.ensures.vacant in
    let within : n ≤ length s.slots.items = omega (arith, c.put-number.ensures.within, ap length c.take_room.ensures.slots_stay) in
    let below : a < length s.archetypes.items = subst (λ k. k < length s.archetypes.items) (sym c.a.view_is) (subst (λ (v : StoreState). c.args.a < length v.archetypes) (sym c.self.view_is) c.requires.there) in
    let types : c.index-types.result.now ≡ types_at s.archetypes.items a = c.index-types.ensures ∙ sym (get_or_default s.archetypes.items a [] c.index-types.result.now below) in
    let order : c.push_reserved.new.self.items ≡ s.order.items ++ Some n ∷ [] = c.push_reserved.ensures.items ∙ ap (λ (o : List (Option ℕ)). o ++ Some n ∷ []) c.take_room.ensures.order_stays in
    let block : h.block ≡ block_of registry (types_at s.archetypes.items a) (capacity registry (types_at s.archetypes.items a)) =
    c.in_ok-held.ensures.block ∙ ap (λ ts. block_of registry ts (capacity registry ts)) types in
    let numbered_is : numbered c.new_held.new.table n h ≡ new_numbered c.args.self.now c.args.a parts n =
    ap (λ k. record { number = n; archetype = k; shared = parts_of c.new_held.new.table h.shared.items; block = h.block }) (c.in_ok-held.ensures.archetype ∙ c.a.view_is)
    ∙ ap (λ ps. record { number = n; archetype = c.args.a; shared = ps; block = h.block }) c.in_ok-held.ensures.parts
    ∙ ap (λ (b : BlockState). record { number = n; archetype = c.args.a; shared = parts; block = b }) block
    ∙ ap (λ k. record { number = n; archetype = c.args.a; shared = parts; block = block_of registry (types_at s.archetypes.items k) (capacity registry (types_at s.archetypes.items k)) }) c.a.view_is
    ∙ ap (λ (v : StoreState). new_numbered v c.args.a parts n) c.self.view_is in
    let blocks : blocks_in c.put-number.new.slots.items c.new_held.new.table c.push_reserved.new.self.items ≡ c.args.self.now.blocks ++ new_numbered c.args.self.now c.args.a parts n ∷ [] =
    ap (λ sl. blocks_in sl c.new_held.new.table c.push_reserved.new.self.items) slots
    ∙ ap (blocks_in (put_slot s.slots.items n h) c.new_held.new.table) order
    ∙ blocks-put s.slots.items s.shared c.new_held.new.table s.order.items n h vacant within (order-there s.slots.items s.order.items c.self.invariant.0.ordered)
    (c.in_ok-held.ensures.held (all_ids (kept s.slots.items)) c.self.invariant.0.backs).keeps
    ∙ ap (λ (v : StoreState). v.blocks ++ numbered c.new_held.new.table n h ∷ []) c.self.view_is
    ∙ ap (λ b. c.args.self.now.blocks ++ b ∷ []) numbered_is in
    record {
      blocks = record { registry = ap (λ (v : StoreState). v.registry) c.self.view_is; archetypes = ap (λ (v : StoreState). v.archetypes) c.self.view_is; blocks = blocks };
      new_number = subst (λ (v : StoreState). list_any (λ b. nat_eq b.number n) v.blocks ≡ false) c.self.view_is (number-new s.slots.items s.shared s.order.items n vacant);
      room =
          subst (λ (v : StoreState). 0 < capacity (registry_of v) (types_at v.archetypes c.args.a)) c.self.view_is
          (subst (λ k. 0 < capacity registry (types_at s.archetypes.items k)) c.a.view_is (c.self.invariant.0.fit a below));
    }
