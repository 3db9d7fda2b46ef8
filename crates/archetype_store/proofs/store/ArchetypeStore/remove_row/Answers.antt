use Rattle.std.proofs.Common.{◌≡◌, ℕ, ◌<◌, true, length, set, nat_lt, Some, refl, sym, ap, ◌∙◌, subst, arith}
use Rattle.std.specs.Option.{IsSome}
use Rattle.std.specs.HashMap.{get}
use Rattle.std.specs.List.{swap_remove}
use Rattle.archetype_store.specs.HomeKeys.{same_home}
use Rattle.archetype_store.specs.Homes.{AreHomes, homes_of, lodgers}
use Rattle.archetype_store.proofs.RankLists.{length-removed}
use Rattle.std.proofs.lemmas.Bool.{lt-ltb}
use Rattle.std.specs.Prelude.{option_map, slice_get}
use Rattle.chunk_block.specs.Blocks.{BlockState, IsWhole, no_row}
use Rattle.archetype_store.specs.declared.slots.Held.{Held}
use Rattle.archetype_store.specs.Slots.{slot_at}
use Rattle.archetype_store.specs.Stores.{moved_into, without_row}
use Rattle.archetype_store.proofs.Orders.{some_is}
use Rattle.archetype_store.proofs.Writes.{slot-found, slot-some, block-is, of-block, store-written, orderly-written}
use Rattle.archetype_store.proofs.Lodging.{home-few, home-fits, home-full, home-has, home-rises, home-there, homes-noted}
use Rattle.archetype_store.proofs.store.ArchetypeStore.remove_row.Goals as goal

abbrev Asked : ℕ → BlockState → Type 0
Asked row b = (row < length b.rows) × IsWhole b.columns

pub held_at-held-requires : goal.held_at-held-requires
held_at-held-requires c =
    subst (λ slots. IsSome (slot_at slots c.args.number)) (sym c.deref.ensures.value) (slot-some c.self.inside c.args.self.now c.self.view_is c.args.number (Asked c.args.row) c.requires)

pub index_mut-requires : goal.index_mut-requires
index_mut-requires c =
    let at = sym (ap (λ slots. slot_at slots c.args.number) c.deref.ensures.value) ∙ c.held_at-held.ensures in
    omega (arith, home-there c.self.inside c.self.invariant c.args.number c.held_at-held.result.now at)

pub note_room-requires-clause-rising : goal.note_room-requires-clause-rising
note_room-requires-clause-rising c =
    let at = sym (ap (λ slots. slot_at slots c.args.number) c.deref.ensures.value) ∙ c.held_at-held.ensures in
    home-rises c.self.inside c.self.invariant c.args.number c.held_at-held.result.now at c.index_mut.result.now c.index_mut.ensures.value

pub note_room-requires-clause-there : goal.note_room-requires-clause-there
note_room-requires-clause-there c =
    let h : Held = c.held_at-held.result.now in
    let at = sym (ap (λ slots. slot_at slots c.args.number) c.deref.ensures.value) ∙ c.held_at-held.ensures in
    home-has c.self.inside c.self.invariant c.args.number h at c.index_mut.result.now c.index_mut.ensures.value
    ∙ ap (λ k. nat_lt k h.block.capacity) (sym c.len.ensures.value) ∙ ap (nat_lt c.len.result) (sym c.capacity.ensures.value)

pub note_room-requires-clause-full : goal.note_room-requires-clause-full
note_room-requires-clause-full c none =
    let h : Held = c.held_at-held.result.now in
    let at = sym (ap (λ slots. slot_at slots c.args.number) c.deref.ensures.value) ∙ c.held_at-held.ensures in
    home-full c.self.inside c.self.invariant c.args.number h at c.index_mut.result.now c.index_mut.ensures.value
    (ap (λ k. nat_lt k h.block.capacity) (sym c.len.ensures.value) ∙ ap (nat_lt c.len.result) (sym c.capacity.ensures.value) ∙ none)

pub note_room-requires-clause-room : goal.note_room-requires-clause-room
note_room-requires-clause-room c =
    let at = sym (ap (λ slots. slot_at slots c.args.number) c.deref.ensures.value) ∙ c.held_at-held.ensures in
    home-fits c.self.inside c.self.invariant c.args.number c.held_at-held.result.now at c.index_mut.result.now c.index_mut.ensures.value

pub note_room-requires-clause-few : goal.note_room-requires-clause-few
note_room-requires-clause-few c =
    let at = sym (ap (λ slots. slot_at slots c.args.number) c.deref.ensures.value) ∙ c.held_at-held.ensures in
    home-few c.self.inside c.self.invariant c.args.number c.held_at-held.result.now at c.index_mut.result.now c.index_mut.ensures.value

pub swap_remove_row-requires-clause-within : goal.swap_remove_row-requires-clause-within
swap_remove_row-requires-clause-within c =
    (block-is c.self.inside c.args.self.now c.self.view_is c.args.number (Asked c.args.row) c.requires c.in-Some.held
    (slot-found c.self.inside c.args.self.now c.self.view_is c.args.number (Asked c.args.row) c.requires c.index_mut-2.result.now c.index_mut-2.ensures.value ∙ c.in-Some.is)).0

pub swap_remove_row-requires-clause-whole : goal.swap_remove_row-requires-clause-whole
swap_remove_row-requires-clause-whole c =
    (block-is c.self.inside c.args.self.now c.self.view_is c.args.number (Asked c.args.row) c.requires c.in-Some.held
    (slot-found c.self.inside c.args.self.now c.self.view_is c.args.number (Asked c.args.row) c.requires c.index_mut-2.result.now c.index_mut-2.ensures.value ∙ c.in-Some.is)).1

pub invariant_of-self : goal.invariant_of-self
invariant_of-self c =
    let there = slot-found c.self.inside c.args.self.now c.self.view_is c.args.number (Asked c.args.row) c.requires c.index_mut-2.result.now c.index_mut-2.ensures.value ∙ c.in-Some.is in
    let written = orderly-written c.self.inside c.args.self.now c.self.view_is c.args.number (Asked c.args.row) c.requires c.in-Some.held (without_row c.args.row) c.swap_remove_row.new.self there c.swap_remove_row.ensures.block refl c.self.invariant in
    let h : Held = c.held_at-held.result.now in
    let at = sym (ap (λ slots. slot_at slots c.args.number) c.deref.ensures.value) ∙ c.held_at-held.ensures in
    let same : h ≡ c.in-Some.held = some_is h c.in-Some.held (sym at ∙ there) in
    let count : nat_lt (length h.block.rows) h.block.capacity ≡ nat_lt c.len.result c.capacity.result =
    ap (λ k. nat_lt k h.block.capacity) (sym c.len.ensures.value) ∙ ap (nat_lt c.len.result) (sym c.capacity.ensures.value) in
    let within : c.args.row < length c.in-Some.held.block.rows = (block-is c.self.inside c.args.self.now c.self.view_is c.args.number (Asked c.args.row) c.requires c.in-Some.held there).0 in
    let fewer : nat_lt (length c.swap_remove_row.new.self.rows) c.swap_remove_row.new.self.capacity ≡ true =
    ap (λ (b : BlockState). nat_lt (length b.rows) b.capacity) c.swap_remove_row.ensures.block
    ∙ lt-ltb (length (swap_remove c.in-Some.held.block.rows c.args.row no_row)) c.in-Some.held.block.capacity
    (omega (
      arith,
      length-removed c.in-Some.held.block.rows c.args.row no_row,
      within,
      c.len.ensures.bound,
      c.len.ensures.value,
      ap (λ (x : Held). length x.block.rows) same,
      ap (λ (x : Held). x.block.capacity) same,
    )) in (
      written.0,
      (
        written.1,
        (
          subst (λ (k : Held). AreHomes (homes_of (set c.self.inside.homes.items h.home c.note_room.new.home)) (get same_home c.self.inside.found) (lodgers (set c.self.inside.slots.items c.args.number (Some (record k { block = c.swap_remove_row.new.self })))) c.self.inside.order.items)
              same
              (homes-noted c.self.inside c.self.invariant c.args.number h at c.index_mut.result.now c.index_mut.ensures.value c.swap_remove_row.new.self c.note_room.new.home (nat_lt c.len.result c.capacity.result) true (sym count) (sym fewer) c.note_room.ensures),
          c.self.invariant.1.1.1,
        ),
      ),
    )

pub returns-clause-moved : goal.returns-clause-moved
returns-clause-moved c =
    of-block c.self.inside c.args.self.now c.self.view_is c.args.number (Asked c.args.row) c.requires (λ b. c.swap_remove_row.result ≡ moved_into c.args.row b) c.in-Some.held
    (slot-found c.self.inside c.args.self.now c.self.view_is c.args.number (Asked c.args.row) c.requires c.index_mut-2.result.now c.index_mut-2.ensures.value ∙ c.in-Some.is)
    (c.swap_remove_row.ensures.moved ∙ ap (λ (b : BlockState). option_map (λ r. r.entity) (slice_get b.rows c.args.row)) c.swap_remove_row.ensures.block)

pub returns-clause-store : goal.returns-clause-store
returns-clause-store c =
    store-written c.self.inside c.args.self.now c.self.view_is c.args.number (Asked c.args.row) c.requires c.in-Some.held (without_row c.args.row) c.swap_remove_row.new.self
    (slot-found c.self.inside c.args.self.now c.self.view_is c.args.number (Asked c.args.row) c.requires c.index_mut-2.result.now c.index_mut-2.ensures.value ∙ c.in-Some.is)
    c.swap_remove_row.ensures.block
