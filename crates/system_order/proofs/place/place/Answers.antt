use Rattle.std.proofs.Common.{◌≡◌, ◌<◌, ◌∙◌, ◌++◌, ℕ, List, [], ◌∷◌, ap, sym, subst, arith, append_assoc, append-nil, length, take, drop, eqb, map}
use Rattle.std.specs.List.{All, position, remove}
use Rattle.std.proofs.lemmas.List.{get_or-map, take_at}
use Rattle.std.proofs.lemmas.List.Elements.{All-map}
use Rattle.std.proofs.lemmas.List.Quantifiers.{position-Some}
use Rattle.system_order.specs.Child.{precedes}
use Rattle.system_order.specs.Place.{blockers_of, places, released, waiting_list}
use Rattle.system_order.specs.declared.place.Waiting.{Waiting}
use Rattle.system_order.proofs.Waits.{All-remove, is_placed, none_free, siblings_of, siblings_of-waiting_list}
use Rattle.system_order.proofs.place.place.Goals as goal

pub loop-at-init : goal.loop-at-init
loop-at-init c =
    let before = precedes c.args.children.now in
    let all = ap siblings_of c.in_ok-rest.ensures ∙ siblings_of-waiting_list before c.args.siblings.now in
    let Known : List Waiting → Type 0 = λ rest. All (λ (waiting : Waiting). waiting.child < length c.args.children.now) rest in
    record {
      counted = c.in_ok-rest.ensures ∙ ap (waiting_list before) (sym all);
      known = subst Known (sym c.in_ok-rest.ensures)
          (All-map (λ (waiting : Waiting). waiting.child < length c.args.children.now) (λ sibling. record { child = sibling; blockers = blockers_of before c.args.siblings.now sibling }) c.args.siblings.now c.requires);
      so_far = ap (λ (front : List ℕ). front ++ places before (length (siblings_of c.in_ok-rest.rest.items)) (siblings_of c.in_ok-rest.rest.items)) c.in_ok-placed.ensures.items
          ∙ ap (λ (ns : List ℕ). places before (length ns) ns) all;
    }

pub release-requires-clause-known : goal.release-requires-clause-known
release-requires-clause-known c =
    let Known : List Waiting → Type 0 = λ rest. All (λ (waiting : Waiting). waiting.child < length c.args.children.now) rest in
    subst Known (sym (c.deref_mut.ensures.value ∙ c.remove-child.ensures.items))
    (All-remove (λ (waiting : Waiting). waiting.child < length c.args.children.now) c.loop-at.rest.items c.in-Some.at c.loop-at.invariant.known)

pub release-requires-clause-placed : goal.release-requires-clause-placed
release-requires-clause-placed c =
    let Known : Waiting → Type 0 = λ waiting. waiting.child < length c.args.children.now in
    let some = c.in-Some.ensures ∙ ap (position (λ (waiting : Waiting). eqb waiting.blockers 0)) c.deref.ensures.value in
    let within = (position-Some (λ (waiting : Waiting). eqb waiting.blockers 0) c.loop-at.rest.items c.in-Some.at c.remove-child.result (sym some)).0 in
    subst Known (sym c.remove-child.ensures.value) (c.loop-at.invariant.known c.in-Some.at c.remove-child.result within)

pub loop-at-preserved : goal.loop-at-preserved
loop-at-preserved c =
    let before = precedes c.args.children.now in
    let rest = c.loop-at.rest.items in
    let at = c.in-Some.at in
    let item = c.remove-child.result in
    let child = item.child in
    let after = take c.remove-child.new.self.len (c.release.new.rest ++ drop (length c.release.new.rest) c.remove-child.new.self.items) in
    let some = c.in-Some.ensures ∙ ap (position (λ (waiting : Waiting). eqb waiting.blockers 0)) c.deref.ensures.value in
    let within = (position-Some (λ (waiting : Waiting). eqb waiting.blockers 0) rest at item (sym some)).0 in
    let is_child = ap (λ (waiting : Waiting). waiting.child) c.remove-child.ensures.value
    ∙ sym (get_or-map (λ (waiting : Waiting). waiting.child) rest at item 0 within) in
    let is_after : after ≡ map (released before child) (remove rest at) =
    take_at c.release.new.rest (drop (length c.release.new.rest) c.remove-child.new.self.items) c.remove-child.new.self.len (omega (arith, c.release.auto.rest, c.deref_mut.ensures.len))
    ∙ c.release.ensures
    ∙ ap (map (released before child)) (c.deref_mut.ensures.value ∙ c.remove-child.ensures.items) in
    let placed = is_placed before rest after at child c.loop-at.invariant.counted some is_child is_after in
    let Known : List Waiting → Type 0 = λ rest. All (λ (waiting : Waiting). waiting.child < length c.args.children.now) rest in
    record {
      counted = placed.counted;
      known = subst Known (sym is_after)
          (All-map (λ (waiting : Waiting). waiting.child < length c.args.children.now) (released before child) (remove rest at)
          (All-remove (λ (waiting : Waiting). waiting.child < length c.args.children.now) rest at c.loop-at.invariant.known));
      so_far = ap (λ (front : List ℕ). front ++ places before (length (siblings_of after)) (siblings_of after)) c.in_ok-push.ensures.items
          ∙ append_assoc c.loop-at.placed.items (child ∷ []) (places before (length (siblings_of after)) (siblings_of after))
          ∙ ap (λ (rest : List ℕ). c.loop-at.placed.items ++ rest) (sym placed.next)
          ∙ c.loop-at.invariant.so_far;
    }

pub returns : goal.returns
returns c =
    let before = precedes c.args.children.now in
    let none = c.in_default.ensures ∙ ap (position (λ (waiting : Waiting). eqb waiting.blockers 0)) c.deref.ensures.value in
    sym (append-nil c.loop-at.placed.items)
    ∙ ap (λ (rest : List ℕ). c.loop-at.placed.items ++ rest) (sym (none_free before c.loop-at.rest.items c.loop-at.invariant.counted none))
    ∙ c.loop-at.invariant.so_far
