use Rattle.std.proofs.Common.{◌≡◌, ◌<◌, ◌++◌, length, map, take, drop}
use Rattle.std.specs.List.{All}
use Rattle.system_order.specs.Child.{precedes}
use Rattle.system_order.specs.Place.{released}
use Rattle.system_order.specs.declared.place.Waiting.{Waiting}
use Rattle.system_order.proofs.place.release.Given as goal

abbrev pub invariant-loop-waiting : goal.invariant-loop-waiting
invariant-loop-waiting l = record {
  done : l.rest ≡ map (released (precedes l.children) l.placed) (take l.waiting-index l.initial.rest) ++ drop l.waiting-index l.initial.rest;
  known : All (λ (waiting : Waiting). waiting.child < length l.children) l.rest;
}
