use Rattle.std.proofs.Common.{◌≡◌, map, take}
use Rattle.system_order.specs.Child.{precedes}
use Rattle.system_order.proofs.cycle.list_rows.Given as goal

abbrev pub invariant-loop-child : goal.invariant-loop-child
invariant-loop-child l = l.rows.items ≡ map (λ first. map (λ last. precedes l.children first last) l.siblings) (take l.child-index l.siblings)
