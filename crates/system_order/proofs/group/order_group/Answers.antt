use Rattle.std.proofs.Common.{◌≡◌, ◌∙◌, ap, sym, ℕ, List, length, arith}
use Rattle.std.specs.Prelude.{None}
use Rattle.std.proofs.lemmas.Bool.{cond-true}
use Rattle.std.proofs.lemmas.List.Sorted.{length_permutation}
use Rattle.system_order.specs.Child.{child_at, members, precedes}
use Rattle.system_order.specs.Chain.{earliest_on_cycle}
use Rattle.system_order.specs.Place.{places}
use Rattle.system_order.proofs.Chains.{placed_all}
use Rattle.system_order.proofs.Full.{acyclic_places}
use Rattle.system_order.proofs.group.order_group.Goals as goal

pub returns-then-len-clause-acyclic : goal.returns-then-len-clause-acyclic
returns-then-len-clause-acyclic c =
    let before = precedes c.args.children.now in
    let siblings = c.in_ok-siblings.siblings.items in
    let placed = c.in_ok-placed.ensures ∙ ap (λ (ns : List ℕ). places before (length ns) ns) c.deref.ensures.value in
    let full : length (places before (length siblings) siblings) ≡ length siblings =
    omega (arith, ap (λ (ns : List ℕ). length ns) placed, c.len.ensures, c.len-2.ensures, c.if-len.true, c.deref.ensures.len, ap (λ (ns : List ℕ). length ns) c.deref.ensures.value) in
    cond-true (child_at c.args.children.now c.args.group).is_group (earliest_on_cycle before (members c.args.children.now c.args.group)) None c.requires.group
    ∙ ap (earliest_on_cycle before) (sym c.in_ok-siblings.ensures.value)
    ∙ placed_all before siblings full

-- siblings without a cycle all get a place
pub unreachable-requires : goal.unreachable-requires
unreachable-requires c =
    let before = precedes c.args.children.now in
    let siblings = c.in_ok-siblings.siblings.items in
    let placed = c.in_ok-placed.ensures ∙ ap (λ (ns : List ℕ). places before (length ns) ns) c.deref.ensures.value in
    let none : earliest_on_cycle before siblings ≡ None =
    ap (earliest_on_cycle before) (sym c.deref-2.ensures.value) ∙ sym c.in_ok-child.ensures ∙ c.in-None.is in
    let full : length (places before (length siblings) siblings) ≡ length siblings =
    length_permutation siblings (places before (length siblings) siblings) (acyclic_places before siblings none) in
    c.if-len.false
    (omega (arith, full, ap (λ (ns : List ℕ). length ns) placed, c.len.ensures, c.len-2.ensures, c.deref.ensures.len, ap (λ (ns : List ℕ). length ns) c.deref.ensures.value))
