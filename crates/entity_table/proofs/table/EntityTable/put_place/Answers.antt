use Rattle.std.proofs.Common.{Option, Some, refl, sym, ◌∙◌, subst, arith}
use Rattle.std.proofs.lemmas.List.{length-set}
use Rattle.entity_table.specs.declared.table.Slot.{Slot}
use Rattle.entity_table.specs.Table.{Holder, IsAlive}
use Rattle.entity_table.specs.Slots.{holder_of, holders_of, table_of, AreVersions}
use Rattle.entity_table.proofs.TableLemmas.{place_at-other, place_at-same}
use Rattle.entity_table.proofs.SlotLemmas.{count_set, free_stays}
use Rattle.entity_table.proofs.AliveSlot.{holders_of-set, versions_of-same, rebinds_set, index_below, version_is, apart_from_free, was_counted, table_of-moved}
use Rattle.entity_table.proofs.table.EntityTable.put_place.Goals as goal

pub invariant_of-self : goal.invariant_of-self
invariant_of-self c =
    let t = c.self.inside in
    let i = c.args.e.index in
    let slot = c.index_mut.result.now in
    let alive : IsAlive (table_of t) c.args.e = subst (λ s. IsAlive s.table c.args.e) (sym c.self.view_is) c.requires in
    let read = c.index_mut.ensures.value in
    let moved : Slot = record { version = slot.version; place = Some c.args.place } in
    let held : Option Holder = holder_of moved in
    let count = count_set (holders_of t.slots.items) i held (index_below t c.args.e slot alive read) in
    let was = was_counted t c.args.e slot alive read in
    record {
      once = c.self.invariant.once;
      free = rw holders_of-set (free_stays (holders_of t.slots.items) t.free.items i held c.self.invariant.free (apart_from_free t c.args.e slot alive read c.self.invariant.free));
      versions = subst AreVersions (sym (versions_of-same t.slots.items i moved slot read refl)) c.self.invariant.versions;
      first = c.self.invariant.first;
      alive = rw holders_of-set (omega (arith, c.self.invariant.alive, count, was));
      counted = omega (arith, c.self.invariant.counted, length-set t.slots.items i moved);
      most_alive = c.self.invariant.most_alive;
      most_made = omega (arith, c.self.invariant.most_made, length-set t.slots.items i moved);
      slots_room = omega (arith, c.self.invariant.slots_room, length-set t.slots.items i moved);
      free_room = omega (arith, c.self.invariant.free_room, length-set t.slots.items i moved);
    }

pub returns-clause-table : goal.returns-clause-table
returns-clause-table c =
    let alive : IsAlive (table_of c.self.inside) c.args.e = subst (λ s. IsAlive s.table c.args.e) (sym c.self.view_is) c.requires in
    rw (← c.self.view_is) (table_of-moved c.self.inside c.args.e c.index_mut.result.now alive c.index_mut.ensures.value c.args.place)

pub returns-clause-map : goal.returns-clause-map
returns-clause-map c =
    let t = c.self.inside in
    let slot = c.index_mut.result.now in
    let alive : IsAlive (table_of t) c.args.e = subst (λ s. IsAlive s.table c.args.e) (sym c.self.view_is) c.requires in
    let version = version_is t c.args.e slot alive c.index_mut.ensures.value in
    let moved : Slot = record { version = slot.version; place = Some c.args.place } in
    rw (← c.self.view_is) (rebinds_set (table_of t) _ c.args.e (holder_of moved) (Some c.args.place) alive (holders_of-set t.slots.items c.args.e.index moved)
    (λ v other. place_at-other v _ (λ same. other (sym same ∙ version)))
    (rw version (place_at-same c.args.e.version c.args.place)))
