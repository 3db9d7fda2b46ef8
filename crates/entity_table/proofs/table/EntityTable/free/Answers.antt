use Rattle.std.proofs.Common.{◌≡◌, ◌+◌, ◌^◌, ◌<◌, [], ◌∷◌, None, refl, sym, ap, ap₂, ◌∙◌, subst, set, length, ◌==◌, arith}
use Rattle.std.proofs.lemmas.Bool.{cond-true, cond-false, eq-eqb, ne_eqb}
use Rattle.std.proofs.lemmas.List.{length-set, length-append, get_or-set_same}
use Rattle.ent_types.specs.declared.entity.Entity.{Entity}
use Rattle.entity_table.specs.declared.table.Slot.{Slot}
use Rattle.entity_table.specs.Table.{IsAlive}
use Rattle.entity_table.specs.Slots.{holders_of, versions_of, free_of, table_of, AreVersions}
use Rattle.entity_table.proofs.SlotLemmas.{versions_set, count_set, count_at_least, free_stays, free_pushed, once_pushed}
use Rattle.entity_table.proofs.AliveSlot.{table_with, holders_of-set, versions_of-set, versions_of-same, rebinds_set, index_below, apart_from_free, was_counted, free_of-freed}
use Rattle.entity_table.proofs.table.EntityTable.free.Goals as goal

pub invariant_of-self : goal.invariant_of-self
invariant_of-self c =
    let t = c.self.inside in
    let i = c.args.e.index in
    let slot = c.index_mut-slot.result.now in
    let alive : IsAlive (table_of t) c.args.e = subst (λ s. IsAlive s.table c.args.e) (sym c.self.view_is) c.requires in
    let read = c.index_mut-slot.ensures.value in
    let freed : Slot = record { version = c.in-Some.version; place = None } in
    let raised : (c.args.e.version + 1 < 2 ^ 32) × (c.in-Some.version ≡ c.args.e.version + 1) = c.in-Some.ensures in
    let below = index_below t c.args.e slot alive read in
    let count = count_set (holders_of t.slots.items) i None below in
    let least = count_at_least (holders_of t.slots.items) i below in
    let was = was_counted t c.args.e slot alive read in
    let apart = apart_from_free t c.args.e slot alive read c.self.invariant.free in
    let longer = length-set t.slots.items i freed in
    let pushed = length-append t.free.items (i ∷ []) in
    record {
      once = rw c.push_reserved.ensures.items (once_pushed t.free.items i c.self.invariant.once apart);
      free = rw (holders_of-set, c.push_reserved.ensures.items) (free_pushed _ t.free.items i
          (free_stays (holders_of t.slots.items) t.free.items i None c.self.invariant.free apart)
          (omega (arith, below, length-set (holders_of t.slots.items) i None))
          (get_or-set_same (holders_of t.slots.items) i None None below));
      versions = rw (versions_of-set t.slots.items i freed) (versions_set (versions_of t.slots.items) i c.in-Some.version c.self.invariant.versions (omega (arith, raised)));
      first = c.self.invariant.first;
      alive = rw holders_of-set (omega (arith, c.self.invariant.alive, count, was));
      counted = omega (arith, c.self.invariant.counted, c.self.invariant.alive, least, was, longer, pushed, ap length c.push_reserved.ensures.items);
      most_alive = omega (arith, c.self.invariant.most_alive);
      most_made = omega (arith, c.self.invariant.most_made, longer, pushed, ap length c.push_reserved.ensures.items);
      slots_room = omega (arith, c.self.invariant.slots_room, longer, pushed, ap length c.push_reserved.ensures.items);
      free_room = omega (arith, c.self.invariant.free_room, longer, pushed, ap length c.push_reserved.ensures.items, c.push_reserved.ensures.capacity);
    }

pub invariant_of-self-in_default : goal.invariant_of-self-in_default
invariant_of-self-in_default c =
    let t = c.self.inside in
    let i = c.args.e.index in
    let slot = c.index_mut-slot.result.now in
    let alive : IsAlive (table_of t) c.args.e = subst (λ s. IsAlive s.table c.args.e) (sym c.self.view_is) c.requires in
    let read = c.index_mut-slot.ensures.value in
    let retired : Slot = record { version = slot.version; place = None } in
    let below = index_below t c.args.e slot alive read in
    let count = count_set (holders_of t.slots.items) i None below in
    let was = was_counted t c.args.e slot alive read in
    let longer = length-set t.slots.items i retired in
    record {
      once = c.self.invariant.once;
      free = rw holders_of-set (free_stays (holders_of t.slots.items) t.free.items i None c.self.invariant.free (apart_from_free t c.args.e slot alive read c.self.invariant.free));
      versions = subst AreVersions (sym (versions_of-same t.slots.items i retired slot read refl)) c.self.invariant.versions;
      first = c.self.invariant.first;
      alive = rw holders_of-set (omega (arith, c.self.invariant.alive, count, was));
      counted = omega (arith, c.self.invariant.counted, longer);
      most_alive = omega (arith, c.self.invariant.most_alive);
      most_made = omega (arith, c.self.invariant.most_made, longer);
      slots_room = omega (arith, c.self.invariant.slots_room, longer);
      free_room = omega (arith, c.self.invariant.free_room, longer);
    }

pub returns-in-Some-clause-table : goal.returns-in-Some-clause-table
returns-in-Some-clause-table c =
    let t = c.self.inside in
    let i = c.args.e.index in
    let slot = c.index_mut-slot.result.now in
    let alive : IsAlive (table_of t) c.args.e = subst (λ s. IsAlive s.table c.args.e) (sym c.self.view_is) c.requires in
    let freed : Slot = record { version = c.in-Some.version; place = None } in
    let given : (c.args.e.version + 1 < 2 ^ 32) × (c.in-Some.version ≡ c.args.e.version + 1) = c.in-Some.ensures in
    let not_last : c.args.e.version ≡ 4294967295 → ⊥ = λ last. omega (arith, given) in
    rw (← c.self.view_is) (ap₂ (λ hs es. table_with hs es t.first_version)
    (holders_of-set t.slots.items i freed)
    (ap (free_of (versions_of (set t.slots.items i freed))) c.push_reserved.ensures.items
    ∙ free_of-freed t c.args.e slot alive c.index_mut-slot.ensures.value c.in-Some.version c.self.invariant.free
    ∙ ap (λ v. (let d : Entity = record { index = i; version = v } in d) ∷ free_of (versions_of t.slots.items) t.free.items) given.1
    ∙ sym (cond-false (c.args.e.version == 4294967295) _ _ (ne_eqb _ _ not_last))))

pub returns-in-Some-clause-map : goal.returns-in-Some-clause-map
returns-in-Some-clause-map c =
    let t = c.self.inside in
    let alive : IsAlive (table_of t) c.args.e = subst (λ s. IsAlive s.table c.args.e) (sym c.self.view_is) c.requires in
    let freed : Slot = record { version = c.in-Some.version; place = None } in
    rw (← c.self.view_is) (rebinds_set (table_of t) _ c.args.e None None alive (holders_of-set t.slots.items c.args.e.index freed) (λ v other. refl) refl)

pub returns-in_default-clause-table : goal.returns-in_default-clause-table
returns-in_default-clause-table c =
    let t = c.self.inside in
    let i = c.args.e.index in
    let slot = c.index_mut-slot.result.now in
    let retired : Slot = record { version = slot.version; place = None } in
    let last : c.args.e.version ≡ 4294967295 = omega (arith, c.in_default.ensures) in
    rw (← c.self.view_is) (ap₂ (λ hs es. table_with hs es t.first_version)
    (holders_of-set t.slots.items i retired)
    (ap (λ vs. free_of vs t.free.items) (versions_of-same t.slots.items i retired slot c.index_mut-slot.ensures.value refl)
    ∙ sym (cond-true (c.args.e.version == 4294967295) _ _ (eq-eqb _ _ last))))

pub returns-in_default-clause-map : goal.returns-in_default-clause-map
returns-in_default-clause-map c =
    let t = c.self.inside in
    let alive : IsAlive (table_of t) c.args.e = subst (λ s. IsAlive s.table c.args.e) (sym c.self.view_is) c.requires in
    let retired : Slot = record { version = c.index_mut-slot.result.now.version; place = None } in
    rw (← c.self.view_is) (rebinds_set (table_of t) _ c.args.e None None alive (holders_of-set t.slots.items c.args.e.index retired) (λ v other. refl) refl)
