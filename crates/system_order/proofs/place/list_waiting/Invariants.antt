use Rattle.std.proofs.Common.{◌≡◌, map, take}
use Rattle.system_order.specs.Child.{precedes}
use Rattle.system_order.specs.Place.{blockers_of}
use Rattle.system_order.specs.declared.place.Waiting.{Waiting}
use Rattle.system_order.proofs.place.list_waiting.Given as goal

abbrev pub invariant-loop-child : goal.invariant-loop-child
invariant-loop-child l = l.rest.items ≡ map (λ sibling. let w : Waiting = record { child = sibling; blockers = blockers_of (precedes l.children) l.siblings sibling } in w) (take l.child-index l.siblings)
