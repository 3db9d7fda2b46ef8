use Rattle.std.proofs.Common.{◌≡◌, [], ◌∷◌, ◌++◌, length, sym, ap, ◌∙◌, subst, arith}
use Rattle.std.specs.HashMap.{get}
use Rattle.std.proofs.lemmas.List.{length-set, length-append}
use Rattle.std.proofs.lemmas.Grind.{common_steps}
use Rattle.shared_values.specs.declared.table.Slot.{Slot}
use Rattle.shared_values.specs.Keys.{same_key}
use Rattle.shared_values.specs.Holds.{IsFreeId, ChangesTo}
use Rattle.shared_values.specs.Tables.{IsFor}
use Rattle.shared_values.proofs.Changes.{changes-set, changes-push, fresh_free}
use Rattle.shared_values.proofs.FreeIds.{free-fresh, top_from}
use Rattle.shared_values.proofs.FoundIds.{found-given}
use Rattle.shared_values.proofs.table.SharedTable.give.Goals as goal

pub index_mut-requires : goal.index_mut-requires
index_mut-requires c =
    let t = c.self.inside in
    let counted : t.free.len ≡ length t.free.items = omega (arith, ap length c.deref.ensures.value, c.deref.ensures.len) in
    let top = top_from t.slots.items t.free.items c.pop.new.self.items c.in-Some.id t.free.len c.self.invariant.free c.self.invariant.once counted (cc) c.pop.ensures.rest in
    omega (arith, top.below)

pub invariant_of-self-in-Some : goal.invariant_of-self-in-Some
invariant_of-self-in-Some c =
    let t = c.self.inside in
    let counted : t.free.len ≡ length t.free.items = omega (arith, ap length c.deref.ensures.value, c.deref.ensures.len) in
    let top = top_from t.slots.items t.free.items c.pop.new.self.items c.in-Some.id t.free.len c.self.invariant.free c.self.invariant.once counted (cc) c.pop.ensures.rest in
    let slot : Slot = record { key = c.args.key; holds = 1 } in
    record {
      once = top.once;
      free = top.left slot (omega arith);
      ids = found-given t.slots.items _ c.in-Some.id slot (changes-set t.slots.items c.in-Some.id slot top.below) (get same_key t.ids) (get same_key c.enter.new.ids) c.self.invariant.ids top.none (omega arith)
          (λ other. subst (λ slots. IsFor slots other c.args.key → ⊥) (sym c.self.view_is) (c.requires other)) (λ key. c.in_ok-enter.ensures.ok.0 key);
      room = omega (arith, length-set t.slots.items c.in-Some.id slot, c.self.invariant.room, c.pop.ensures.capacity);
    }

pub returns-in-Some-clause-answer : goal.returns-in-Some-clause-answer
returns-in-Some-clause-answer c =
    let t = c.self.inside in
    let counted : t.free.len ≡ length t.free.items = omega (arith, ap length c.deref.ensures.value, c.deref.ensures.len) in
    let top = top_from t.slots.items t.free.items c.pop.new.self.items c.in-Some.id t.free.len c.self.invariant.free c.self.invariant.once counted (cc) c.pop.ensures.rest in
    subst (λ slots. IsFreeId slots c.in-Some.id) c.self.view_is (record { free = top.none; next = omega (arith, top.below); fresh_last = λ fresh. absurd (omega (arith, top.below)) })

pub returns-in-Some-clause-held : goal.returns-in-Some-clause-held
returns-in-Some-clause-held c =
    let t = c.self.inside in
    let counted : t.free.len ≡ length t.free.items = omega (arith, ap length c.deref.ensures.value, c.deref.ensures.len) in
    let top = top_from t.slots.items t.free.items c.pop.new.self.items c.in-Some.id t.free.len c.self.invariant.free c.self.invariant.once counted (cc) c.pop.ensures.rest in
    rw (← c.self.view_is) (changes-set t.slots.items c.in-Some.id (record { key = c.args.key; holds = 1 }) top.below)

pub invariant_of-self-2 : goal.invariant_of-self-2
invariant_of-self-2 c =
    let t = c.self.inside in
    let old = t.slots.items in
    let id = c.in_ok-id.id in
    let slot : Slot = record { key = c.args.key; holds = 1 } in
    let empty : t.free.items ≡ [] = grind (arith, common_steps) in
    let id_is : id ≡ length old = c.in_ok-id.ensures.id in
    let pushed : c.push_reserved.new.self.items ≡ old ++ slot ∷ [] = c.push_reserved.ensures.items ∙ ap (λ slots. slots ++ slot ∷ []) c.next_id.ensures.slots_stay in
    let left : c.next_id.new.free.items ≡ [] = c.next_id.ensures.free_stays ∙ empty in
    let changes : ChangesTo old c.push_reserved.new.self.items id slot = rw (pushed, id_is) (changes-push old slot) in
    record {
      once = rw (left, ← empty) c.self.invariant.once;
      free = rw left (free-fresh old c.push_reserved.new.self.items id slot changes (rw empty at c.self.invariant.free) id_is (omega arith));
      ids = found-given old c.push_reserved.new.self.items id slot changes (get same_key t.ids) (get same_key c.enter-2.new.ids) c.self.invariant.ids (fresh_free old id id_is) (omega arith)
          (λ other. subst (λ slots. IsFor slots other c.args.key → ⊥) (sym c.self.view_is) (c.requires other)) (λ key. c.in_ok-enter-2.ensures.ok.0 key);
      room = omega (arith, c.in_ok-id.ensures.free_room, ap length c.push_reserved.ensures.items, length-append c.next_id.new.slots.items (slot ∷ []));
    }
