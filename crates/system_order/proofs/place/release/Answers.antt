use Rattle.std.proofs.Common.{◌≡◌, ◌<◌, arith, length, get_or}
use Rattle.std.proofs.lemmas.List.{get_or_default}
use Rattle.std.proofs.lemmas.List.Edits.{map_over_more}
use Rattle.std.proofs.lemmas.List.Elements.{All-set}
use Rattle.system_order.specs.Child.{precedes}
use Rattle.system_order.specs.Place.{released}
use Rattle.system_order.specs.declared.place.Waiting.{Waiting}
use Rattle.system_order.proofs.place.release.Goals as goal

pub loop-waiting-preserved : goal.loop-waiting-preserved
loop-waiting-preserved c =
    let i = c.loop-waiting.waiting-index in
    let rest = c.loop-waiting.rest in
    let none : Waiting = record { child = 0; blockers = 0 } in
    let item = get_or rest i none in
    let release = released (precedes c.args.children.now) c.args.placed in
    let within : i < length rest = omega arith in
    let is_item : c.released_by.result ≡ release item = c.released_by.ensures in
    rw is_item record {
      done = map_over_more release c.args.rest.now rest i item c.loop-waiting-test.true c.loop-waiting.invariant.done (get_or_default rest i none item within);
      known = All-set (λ (waiting : Waiting). waiting.child < length c.args.children.now) rest i (release item) (c.loop-waiting.invariant.known i none within) c.loop-waiting.invariant.known;
    }
