use Rattle.std.proofs.Common.{◌≡◌, set, sym, ap, ◌∙◌, arith}
use Rattle.std.specs.Cmp.{nat_eq_equiv}
use Rattle.std.specs.HashMap.{get}
use Rattle.std.proofs.lemmas.List.{length-set, get_or_default}
use Rattle.std.proofs.lemmas.Map.Keys.{IsDistinct-push}
use Rattle.shared_values.specs.declared.table.Slot.{Slot}
use Rattle.shared_values.specs.Keys.{same_key}
use Rattle.shared_values.specs.Holds.{vacant, slot_at, IsHeld}
use Rattle.shared_values.proofs.Changes.{changes-set, held_below}
use Rattle.shared_values.proofs.FreeIds.{is_free-held, free-given, room_for}
use Rattle.shared_values.proofs.FoundIds.{found-taken}
use Rattle.shared_values.proofs.table.SharedTable.release.Goals as goal

pub push_reserved-requires : goal.push_reserved-requires
push_reserved-requires c =
    let t = c.self.inside in
    let held : IsHeld t.slots.items c.id.inside.0 = rw (c.self.view_is, c.id.view_is) c.requires in
    omega (arith, room_for t.slots.items t.free.items c.id.inside.0 c.self.invariant.free c.self.invariant.once held, c.self.invariant.room)

pub invariant_of-self-2 : goal.invariant_of-self-2
invariant_of-self-2 c =
    let t = c.self.inside in
    let old = t.slots.items in
    let id = c.id.inside.0 in
    let slot = c.vacant.result in
    let gone = c.index_mut-slot.result.now in
    let held : IsHeld old id = rw (c.self.view_is, c.id.view_is) c.requires in
    let changes = changes-set old id slot (held_below old id held) in
    let none : slot.holds ≡ 0 = ap (λ (s : Slot). s.holds) c.vacant.ensures in
    let was : slot_at old id ≡ gone = get_or_default old id vacant gone (held_below old id held) ∙ sym c.index_mut-slot.ensures.value in
    record {
      once = rw c.push_reserved.ensures.items (IsDistinct-push nat_eq_equiv t.free.items id c.self.invariant.once (c.self.invariant.free id ∙ is_free-held old id held));
      free = rw c.push_reserved.ensures.items (free-given old (set old id slot) id slot changes t.free.items c.self.invariant.free held none);
      ids = found-taken old (set old id slot) id slot changes (get same_key t.ids) (get same_key c.remove.new.self) c.self.invariant.ids gone.key
          (held, ap (λ (s : Slot). s.key) was) none (λ key. c.remove.ensures.updates.0 key);
      room = omega (arith, length-set old id slot, c.self.invariant.room, c.push_reserved.ensures.capacity);
    }
