use Rattle.std.proofs.Common.{◌≡◌, ◌+◌, ◌-◌, ◌∙◌, ℕ, suc, false, ap, sym, arith, length}
use Rattle.std.specs.List.{flat_map, list_any}
use Rattle.system_order.specs.Child.{child_at}
use Rattle.system_order.specs.Order.{opened, spliced}
use Rattle.system_order.proofs.Splices.{spliced_level, spliced_out, spliced_systems}
use Rattle.system_order.proofs.splice.splice.Goals as goal
use Rattle.system_order.proofs.splice.splice.Goals.{else-loop-level-test, then-loop-level-test+then-not-has_group}

pub loop-level-preserved : goal.loop-level-preserved
loop-level-preserved c =
    let children = c.args.children.now in
    let row = c.loop-level.row.items in
    let left = length children - (c.loop-level.level + 1) in
    let one_less : length children - c.loop-level.level ≡ suc left = omega (arith, c.loop-level-test.true) in
    ap (spliced children left) (c.in_ok-row-2.ensures ∙ ap (flat_map (opened children)) c.deref-in-loop-level.ensures.value)
    ∙ sym (ap (λ (n : ℕ). spliced children n row) one_less ∙ spliced_level children left row)
    ∙ c.loop-level.invariant

pub returns : goal.returns
returns c =
    let children = c.args.children.now in
    let row = c.loop-level.row.items in
    let left = length children - c.loop-level.level in
    elim c.loop-level-test.branch [
      | else-loop-level-test w ↦
          sym (spliced_out children left row (omega (arith, w.loop-level-test.false))) ∙ c.loop-level.invariant
      | then-loop-level-test+then-not-has_group w ↦
          let none : list_any (λ (number : ℕ). (child_at children number).is_group) row ≡ false =
          ap (list_any (λ (number : ℕ). (child_at children number).is_group)) (sym w.deref.ensures.value) ∙ sym w.has_group.ensures ∙ w.if-not-has_group.true in
          sym (spliced_systems children left row none) ∙ c.loop-level.invariant
    ]
