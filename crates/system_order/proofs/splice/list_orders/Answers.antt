use Rattle.std.proofs.Common.{◌∙◌, ◌++◌, ◌∷◌, [], ℕ, List, ap, sym, arith, length, map, take}
use Rattle.std.specs.List.{range_with_len}
use Rattle.std.proofs.lemmas.List.{take_all}
use Rattle.std.proofs.lemmas.List.FromFn.{length-range_with_len}
use Rattle.std.proofs.lemmas.Result.{err_from_is_err_and}
use Rattle.system_order.specs.Order.{cycle_in, first_some, placed_in}
use Rattle.system_order.proofs.Splices.{cycle_first, cycles_more, orders_more}
use Rattle.system_order.proofs.splice.list_orders.Goals as goal

pub returns-in_err-placed-clause-cycle : goal.returns-in_err-placed-clause-cycle
returns-in_err-placed-clause-cycle c =
    let p = err_from_is_err_and c.from_residual-in_err-placed.result c.from_residual-in_err-placed.ensures.1 in
    rw (p.1, p.2) (cycle_first c.args.children.now c.loop-number.number c.in_err-placed.field-0.0 c.loop-number-test.true c.loop-number.invariant.none c.in_err-placed.ensures.cycle)

pub loop-number-preserved : goal.loop-number-preserved
loop-number-preserved c =
    let children = c.args.children.now in
    let number = c.loop-number.number in
    record {
      value = c.in_ok-push.ensures.items
          ∙ ap (λ (os : List (List ℕ)). os ++ c.from_vec.result ∷ []) c.loop-number.invariant.value
          ∙ ap (λ (o : List ℕ). map (placed_in children) (take number (range_with_len 0 (length children))) ++ o ∷ []) (c.from_vec.ensures ∙ c.in_ok-placed.ensures.value)
          ∙ sym (orders_more children number c.loop-number-test.true);
      none = cycles_more children number c.loop-number-test.true c.loop-number.invariant.none c.in_ok-placed.ensures.acyclic;
    }

pub returns-clause-acyclic : goal.returns-clause-acyclic
returns-clause-acyclic c =
    let all = range_with_len 0 (length c.args.children.now) in
    ap (first_some (cycle_in c.args.children.now)) (sym (take_all c.loop-number.number all (omega (arith, length-range_with_len 0 (length c.args.children.now), c.loop-number-test.false))))
    ∙ c.loop-number.invariant.none

pub returns-clause-value : goal.returns-clause-value
returns-clause-value c =
    let all = range_with_len 0 (length c.args.children.now) in
    c.loop-number.invariant.value
    ∙ ap (map (placed_in c.args.children.now)) (take_all c.loop-number.number all (omega (arith, length-range_with_len 0 (length c.args.children.now), c.loop-number-test.false)))
