use Rattle.std.proofs.Common.{◌∙◌, ◌++◌, ℕ, List, ap, sym, arith, length}
use Rattle.std.proofs.lemmas.List.FromFn.{length-map-range_with_len}
use Rattle.system_order.specs.Order.{placed_in}
use Rattle.system_order.proofs.Splices.{order_at}
use Rattle.system_order.proofs.splice.push_opened.Goals as goal

pub bounds-orders-number : goal.bounds-orders-number
bounds-orders-number c =
    let long = ap (λ (os : List (List ℕ)). length os) c.requires ∙ length-map-range_with_len (placed_in c.args.children.now) 0 (length c.args.children.now) in
    omega (arith, long, c.if-is_group.ensures.known)

pub returns-in_ok-extend_from_slice : goal.returns-in_ok-extend_from_slice
returns-in_ok-extend_from_slice c =
    c.in_ok-extend_from_slice.ensures.items
    ∙ ap (λ (ys : List ℕ). c.args.row.now.items ++ ys)
    (c.as_slice.ensures ∙ c.index-orders-number.is
    ∙ order_at c.args.children.now c.args.orders.now c.args.number c.index-orders-number.result c.requires c.if-is_group.ensures.known (sym c.if-is_group.ensures.value))
