use Rattle.std.proofs.Common.{◌≡◌, ◌<◌, ◌++◌, length}
use Rattle.std.specs.List.{All}
use Rattle.system_order.specs.Child.{precedes}
use Rattle.system_order.specs.Place.{places, waiting_list}
use Rattle.system_order.specs.declared.place.Waiting.{Waiting}
use Rattle.system_order.proofs.Waits.{siblings_of}
use Rattle.system_order.proofs.place.place.Given as goal

abbrev pub invariant-loop-at : goal.invariant-loop-at
invariant-loop-at l = record {
  counted : l.rest.items ≡ waiting_list (precedes l.children) (siblings_of l.rest.items);
  known : All (λ (waiting : Waiting). waiting.child < length l.children) l.rest.items;
  so_far : l.placed.items ++ places (precedes l.children) (length (siblings_of l.rest.items)) (siblings_of l.rest.items) ≡ places (precedes l.children) (length l.siblings) l.siblings;
}

abbrev pub decreases-loop-at : goal.decreases-loop-at
decreases-loop-at l = length l.rest.items
