use Rattle.std.proofs.Common.{◌≡◌, length, set, nat_lt, Some, refl, sym, ap, ◌∙◌, subst, arith}
use Rattle.std.specs.Option.{IsSome}
use Rattle.std.specs.HashMap.{get}
use Rattle.chunk_block.specs.Blocks.{BlockState}
use Rattle.archetype_store.specs.declared.slots.Held.{Held}
use Rattle.archetype_store.specs.HomeKeys.{same_home}
use Rattle.archetype_store.specs.Homes.{AreHomes, homes_of, lodgers}
use Rattle.archetype_store.specs.Slots.{slot_at}
use Rattle.archetype_store.specs.Stores.{shape_list}
use Rattle.archetype_store.specs.Inside.{beside}
use Rattle.archetype_store.specs.Attached.{IsOneKind}
use Rattle.archetype_store.proofs.Orders.{some_is}
use Rattle.archetype_store.proofs.Writes.{slot-found, slot-some, block-is, store-written, orderly-written}
use Rattle.archetype_store.proofs.Lodging.{home-few, home-fits, home-full, home-has, home-rises, home-there, homes-noted}
use Rattle.archetype_store.proofs.store.ArchetypeStore.put_block.Goals as goal

abbrev Asked : BlockState → BlockState → Type 0
Asked block b = IsOneKind b block

same_beside : (block : BlockState) (h : Held) → IsOneKind h.block block → beside (record h { block = block }) ≡ beside h
same_beside block h kind =
    ap (λ ts. record (beside h) { types = ts; capacity = block.capacity; shapes = shape_list block.columns }) (sym kind.types)
    ∙ ap (λ n. record (beside h) { capacity = n; shapes = shape_list block.columns }) (sym kind.capacity) ∙ ap (λ shapes. record (beside h) { shapes = shapes }) (sym kind.shapes)

pub held_at-held-requires : goal.held_at-held-requires
held_at-held-requires c =
    subst (λ slots. IsSome (slot_at slots c.args.number)) (sym c.deref.ensures.value) (slot-some c.self.inside c.args.self.now c.self.view_is c.args.number (Asked c.args.block) c.requires)

pub index_mut-requires : goal.index_mut-requires
index_mut-requires c =
    let at = sym (ap (λ slots. slot_at slots c.args.number) c.deref.ensures.value) ∙ c.held_at-held.ensures in
    omega (arith, home-there c.self.inside c.self.invariant c.args.number c.held_at-held.result.now at)

pub note_room-requires-clause-rising : goal.note_room-requires-clause-rising
note_room-requires-clause-rising c =
    let at = sym (ap (λ slots. slot_at slots c.args.number) c.deref.ensures.value) ∙ c.held_at-held.ensures in
    home-rises c.self.inside c.self.invariant c.args.number c.held_at-held.result.now at c.index_mut.result.now c.index_mut.ensures.value

pub note_room-requires-clause-there : goal.note_room-requires-clause-there
note_room-requires-clause-there c =
    let h : Held = c.held_at-held.result.now in
    let at = sym (ap (λ slots. slot_at slots c.args.number) c.deref.ensures.value) ∙ c.held_at-held.ensures in
    home-has c.self.inside c.self.invariant c.args.number h at c.index_mut.result.now c.index_mut.ensures.value
    ∙ ap (λ k. nat_lt k h.block.capacity) (sym c.len.ensures.value) ∙ ap (nat_lt c.len.result) (sym c.capacity.ensures.value)

pub note_room-requires-clause-full : goal.note_room-requires-clause-full
note_room-requires-clause-full c none =
    let h : Held = c.held_at-held.result.now in
    let at = sym (ap (λ slots. slot_at slots c.args.number) c.deref.ensures.value) ∙ c.held_at-held.ensures in
    home-full c.self.inside c.self.invariant c.args.number h at c.index_mut.result.now c.index_mut.ensures.value
    (ap (λ k. nat_lt k h.block.capacity) (sym c.len.ensures.value) ∙ ap (nat_lt c.len.result) (sym c.capacity.ensures.value) ∙ none)

pub note_room-requires-clause-room : goal.note_room-requires-clause-room
note_room-requires-clause-room c =
    let at = sym (ap (λ slots. slot_at slots c.args.number) c.deref.ensures.value) ∙ c.held_at-held.ensures in
    home-fits c.self.inside c.self.invariant c.args.number c.held_at-held.result.now at c.index_mut.result.now c.index_mut.ensures.value

pub note_room-requires-clause-few : goal.note_room-requires-clause-few
note_room-requires-clause-few c =
    let at = sym (ap (λ slots. slot_at slots c.args.number) c.deref.ensures.value) ∙ c.held_at-held.ensures in
    home-few c.self.inside c.self.invariant c.args.number c.held_at-held.result.now at c.index_mut.result.now c.index_mut.ensures.value

pub invariant_of-self : goal.invariant_of-self
invariant_of-self c =
    let there = slot-found c.self.inside c.args.self.now c.self.view_is c.args.number (Asked c.args.block) c.requires c.index_mut-2.result.now c.index_mut-2.ensures.value ∙ c.in-Some.is in
    let kind : IsOneKind c.in-Some.held.block c.args.block = block-is c.self.inside c.args.self.now c.self.view_is c.args.number (Asked c.args.block) c.requires c.in-Some.held there in
    let written =
    orderly-written c.self.inside c.args.self.now c.self.view_is c.args.number (Asked c.args.block) c.requires c.in-Some.held (λ _. c.args.block) c.args.block there refl (same_beside c.args.block c.in-Some.held kind) c.self.invariant in
    let h : Held = c.held_at-held.result.now in
    let at = sym (ap (λ slots. slot_at slots c.args.number) c.deref.ensures.value) ∙ c.held_at-held.ensures in
    let same : h ≡ c.in-Some.held = some_is h c.in-Some.held (sym at ∙ there) in
    let was : nat_lt c.len.result c.capacity.result ≡ nat_lt (length h.block.rows) h.block.capacity =
    ap (λ k. nat_lt k c.capacity.result) c.len.ensures.value ∙ ap (nat_lt (length h.block.rows)) c.capacity.ensures.value in
    let is : nat_lt c.len-2.result c.capacity-2.result ≡ nat_lt (length c.args.block.rows) c.args.block.capacity =
    ap (λ k. nat_lt k c.capacity-2.result) c.len-2.ensures.value ∙ ap (nat_lt (length c.args.block.rows)) c.capacity-2.ensures.value in (
      written.0,
      (
        written.1,
        (
          subst (λ (k : Held). AreHomes (homes_of (set c.self.inside.homes.items h.home c.note_room.new.home)) (get same_home c.self.inside.found) (lodgers (set c.self.inside.slots.items c.args.number (Some (record k { block = c.args.block })))) c.self.inside.order.items)
              same
              (homes-noted c.self.inside c.self.invariant c.args.number h at c.index_mut.result.now c.index_mut.ensures.value c.args.block c.note_room.new.home (nat_lt c.len.result c.capacity.result)
              (nat_lt c.len-2.result c.capacity-2.result) was is c.note_room.ensures),
          c.self.invariant.1.1.1,
        ),
      ),
    )

pub returns : goal.returns
returns c =
    store-written c.self.inside c.args.self.now c.self.view_is c.args.number (Asked c.args.block) c.requires c.in-Some.held (λ _. c.args.block) c.args.block
    (slot-found c.self.inside c.args.self.now c.self.view_is c.args.number (Asked c.args.block) c.requires c.index_mut-2.result.now c.index_mut-2.ensures.value ∙ c.in-Some.is) refl
