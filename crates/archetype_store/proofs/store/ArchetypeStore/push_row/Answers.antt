use Rattle.std.proofs.Common.{◌≡◌, ◌<◌, ◌++◌, ◌∷◌, [], true, length, set, ◌-◌, nat_lt, Some, refl, sym, ap, ◌∙◌, subst, arith}
use Rattle.std.specs.Option.{IsSome}
use Rattle.std.specs.HashMap.{get}
use Rattle.std.proofs.lemmas.List.{length-append}
use Rattle.archetype_store.specs.HomeKeys.{same_home}
use Rattle.archetype_store.specs.Homes.{AreHomes, homes_of, lodgers}
use Rattle.archetype_store.proofs.RankLists.{room-left}
use Rattle.std.proofs.lemmas.Bool.{lt-ltb}
use Rattle.ent_types.specs.declared.entity.Entity.{Entity}
use Rattle.chunk_block.specs.Blocks.{BlockState, IsWhole, new_row}
use Rattle.archetype_store.specs.declared.slots.Held.{Held}
use Rattle.archetype_store.specs.Slots.{slot_at}
use Rattle.archetype_store.proofs.Orders.{some_is}
use Rattle.archetype_store.proofs.Writes.{slot-found, slot-some, block-is, of-block, store-written, orderly-written}
use Rattle.archetype_store.proofs.Lodging.{home-few, home-fits, home-has, home-rises, home-there, homes-noted}
use Rattle.archetype_store.proofs.store.ArchetypeStore.push_row.Goals as goal

abbrev Asked : BlockState → Type 0
Asked b = (length b.rows < b.capacity) × IsWhole b.columns

abbrev after : Entity → BlockState → BlockState
after e b = record b { rows = b.rows ++ new_row b.columns e ∷ [] }

pub held_at-held-requires : goal.held_at-held-requires
held_at-held-requires c =
    subst (λ slots. IsSome (slot_at slots c.args.number)) (sym c.deref.ensures.value) (slot-some c.self.inside c.args.self.now c.self.view_is c.args.number Asked c.requires)

pub index_mut-requires : goal.index_mut-requires
index_mut-requires c =
    let at = sym (ap (λ slots. slot_at slots c.args.number) c.deref.ensures.value) ∙ c.held_at-held.ensures in
    omega (arith, home-there c.self.inside c.self.invariant c.args.number c.held_at-held.result.now at)

pub note_room-requires-clause-rising : goal.note_room-requires-clause-rising
note_room-requires-clause-rising c =
    let at = sym (ap (λ slots. slot_at slots c.args.number) c.deref.ensures.value) ∙ c.held_at-held.ensures in
    home-rises c.self.inside c.self.invariant c.args.number c.held_at-held.result.now at c.index_mut.result.now c.index_mut.ensures.value

pub note_room-requires-clause-there : goal.note_room-requires-clause-there
note_room-requires-clause-there c =
    let h : Held = c.held_at-held.result.now in
    let at = sym (ap (λ slots. slot_at slots c.args.number) c.deref.ensures.value) ∙ c.held_at-held.ensures in
    home-has c.self.inside c.self.invariant c.args.number h at c.index_mut.result.now c.index_mut.ensures.value
    ∙ lt-ltb (length h.block.rows) h.block.capacity (block-is c.self.inside c.args.self.now c.self.view_is c.args.number Asked c.requires h at).0

pub note_room-requires-clause-room : goal.note_room-requires-clause-room
note_room-requires-clause-room c =
    let at = sym (ap (λ slots. slot_at slots c.args.number) c.deref.ensures.value) ∙ c.held_at-held.ensures in
    home-fits c.self.inside c.self.invariant c.args.number c.held_at-held.result.now at c.index_mut.result.now c.index_mut.ensures.value

pub note_room-requires-clause-few : goal.note_room-requires-clause-few
note_room-requires-clause-few c =
    let at = sym (ap (λ slots. slot_at slots c.args.number) c.deref.ensures.value) ∙ c.held_at-held.ensures in
    home-few c.self.inside c.self.invariant c.args.number c.held_at-held.result.now at c.index_mut.result.now c.index_mut.ensures.value

pub push_row-requires-clause-room : goal.push_row-requires-clause-room
push_row-requires-clause-room c =
    (block-is c.self.inside c.args.self.now c.self.view_is c.args.number Asked c.requires c.in-Some.held
    (slot-found c.self.inside c.args.self.now c.self.view_is c.args.number Asked c.requires c.index_mut-2.result.now c.index_mut-2.ensures.value ∙ c.in-Some.is)).0

pub push_row-requires-clause-whole : goal.push_row-requires-clause-whole
push_row-requires-clause-whole c =
    (block-is c.self.inside c.args.self.now c.self.view_is c.args.number Asked c.requires c.in-Some.held
    (slot-found c.self.inside c.args.self.now c.self.view_is c.args.number Asked c.requires c.index_mut-2.result.now c.index_mut-2.ensures.value ∙ c.in-Some.is)).1

pub invariant_of-self : goal.invariant_of-self
invariant_of-self c =
    let there = slot-found c.self.inside c.args.self.now c.self.view_is c.args.number Asked c.requires c.index_mut-2.result.now c.index_mut-2.ensures.value ∙ c.in-Some.is in
    let written = orderly-written c.self.inside c.args.self.now c.self.view_is c.args.number Asked c.requires c.in-Some.held (after c.args.e) c.push_row.new.self there c.push_row.ensures.block refl c.self.invariant in
    let h : Held = c.held_at-held.result.now in
    let at = sym (ap (λ slots. slot_at slots c.args.number) c.deref.ensures.value) ∙ c.held_at-held.ensures in
    let same : h ≡ c.in-Some.held = some_is h c.in-Some.held (sym at ∙ there) in
    let room : length h.block.rows < h.block.capacity = (block-is c.self.inside c.args.self.now c.self.view_is c.args.number Asked c.requires h at).0 in
    let left : nat_lt 1 (c.capacity.result - c.len.result) ≡ nat_lt (length c.push_row.new.self.rows) c.push_row.new.self.capacity =
    ap (λ k. nat_lt 1 (k - c.len.result)) c.capacity.ensures.value ∙ ap (λ k. nat_lt 1 (h.block.capacity - k)) c.len.ensures.value
    ∙ room-left (length h.block.rows) h.block.capacity room
    ∙ ap (λ k. nat_lt k h.block.capacity) (sym (length-append h.block.rows (new_row h.block.columns c.args.e ∷ [])))
    ∙ ap (λ (x : Held). nat_lt (length (after c.args.e x.block).rows) (after c.args.e x.block).capacity) same
    ∙ sym (ap (λ (b : BlockState). nat_lt (length b.rows) b.capacity) c.push_row.ensures.block) in (
      written.0,
      (
        written.1,
        (
          subst (λ (k : Held). AreHomes (homes_of (set c.self.inside.homes.items h.home c.note_room.new.home)) (get same_home c.self.inside.found) (lodgers (set c.self.inside.slots.items c.args.number (Some (record k { block = c.push_row.new.self })))) c.self.inside.order.items)
              same
              (homes-noted c.self.inside c.self.invariant c.args.number h at c.index_mut.result.now c.index_mut.ensures.value c.push_row.new.self c.note_room.new.home true (nat_lt 1 (c.capacity.result - c.len.result))
              (sym (lt-ltb (length h.block.rows) h.block.capacity room)) left c.note_room.ensures),
          c.self.invariant.1.1.1,
        ),
      ),
    )

pub returns-clause-place : goal.returns-clause-place
returns-clause-place c =
    of-block c.self.inside c.args.self.now c.self.view_is c.args.number Asked c.requires (λ b. c.push_row.result ≡ length b.rows) c.in-Some.held
    (slot-found c.self.inside c.args.self.now c.self.view_is c.args.number Asked c.requires c.index_mut-2.result.now c.index_mut-2.ensures.value ∙ c.in-Some.is)
    c.push_row.ensures.place

pub returns-clause-store : goal.returns-clause-store
returns-clause-store c =
    store-written c.self.inside c.args.self.now c.self.view_is c.args.number Asked c.requires c.in-Some.held (after c.args.e) c.push_row.new.self
    (slot-found c.self.inside c.args.self.now c.self.view_is c.args.number Asked c.requires c.index_mut-2.result.now c.index_mut-2.ensures.value ∙ c.in-Some.is)
    c.push_row.ensures.block
